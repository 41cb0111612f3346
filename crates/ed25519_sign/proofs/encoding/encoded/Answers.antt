-- `ed25519_sign::encoding::encoded` meets its contract.
use Rattle.ed25519_field.proofs.Raise.{up}
use Rattle.ed25519_sign.proofs.Dividing.{coded}
use Rattle.ed25519_sign.proofs.encoding.encoded.Goals as goal

pub mul-requires : goal.mul-requires
mul-requires c = (up tt c.requires.x, up tt c.inverse-i.ensures.1)

pub mul-requires-2 : goal.mul-requires-2
mul-requires-2 c = (up tt c.requires.y, up tt c.inverse-i.ensures.1)

pub returns : goal.returns
returns c =
    coded c.args.q _ _ _ _ c.inverse-i.ensures.0 c.mul.ensures.is
    c.mul-2.ensures.is c.encode.ensures
