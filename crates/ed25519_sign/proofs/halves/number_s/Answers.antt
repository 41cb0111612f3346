-- `ed25519_sign::halves::number_s` meets its contract.
use borrow.Author.Rules.{rules}
use Rattle.ed25519_sign.proofs.Numbers.{rest_below, below-fits, second_is}
use Rattle.ed25519_sign.proofs.halves.number_s.Goals as goal

pub times-t-requires : goal.times-t-requires
times-t-requires c =
    let l = c.limbs_of.ensures in
    (l.1, rw l.0 c.requires.2)

pub plus-requires : goal.plus-requires
plus-requires c = let low = rest_below _ c.times-t.ensures.0 in search rules

pub bytes_of-requires : goal.bytes_of-requires
bytes_of-requires c =
    let q = c.plus.ensures in
    (q.1, below-fits (rest_below _ q.0))

pub returns : goal.returns
returns c =
    second_is _ _ _ _ _ _ _ c.limbs_of.ensures.0 c.times-t.ensures.0 c.plus.ensures.0
    c.bytes_of.ensures
