-- `ed25519_sign::pruning::pruned` meets its contract.
use mathlib.Core.Path.{ap}
use mir.Syntax.{w8}
use mir.Val.{Fits}
use native.Mathlib.Omega.{arith}
use borrow.Author.Rules.{rules}
use lib.ListN.{get_or}
use Rattle.digits.proofs.Bounds.{each-byte}
use Rattle.ed25519_sign.specs.Signing.{pruned}
use Rattle.ed25519_sign.proofs.Pruned.{pruned-low}
use Rattle.ed25519_sign.proofs.pruning.pruned.Goals as goal

pub overflow_mul-s : goal.overflow_mul-s
overflow_mul-s c =
    let first : Fits w8 (get_or c.copy32-s.result 0 0) = search rules in omega arith

pub returns : goal.returns
unfolding pruned
returns c =
    let s = c.copy32-s.result in
    (ap pruned c.copy32-s.ensures, pruned-low s (search rules) (each-byte s (λ i. search rules)))
