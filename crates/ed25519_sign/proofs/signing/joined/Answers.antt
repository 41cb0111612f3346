-- `ed25519_sign::signing::joined` meets its contract.
use borrow.Author.Rules.{rules}
use Rattle.ed25519_sign.proofs.Steps.{joined_is}
use Rattle.ed25519_sign.proofs.signing.joined.Goals as goal

pub returns : goal.returns
returns c =
    let g = c.args in
    joined_is g.r g.s c.put.new.dst c.put-2.new.dst (search rules) (search rules) c.put.ensures
    c.put-2.ensures
