-- `hash::parent` meets its contract.
use mathlib.Core.Path.{◌≡◌, ap, ◌∙◌}
use mathlib.Core.List.{List}
use Prim.Native.Nat.{ℕ}
use native.Mathlib.Omega.{arith}
use lib.ListN.{length, set, take, replicate}
use Rattle.laws.specs.Pasted.{pasted}
use Rattle.laws.proofs.Pasted.{pasted-twice}
use Rattle.sha512.specs.Computation.{Sha512}
use Rattle.hash.specs.Hashes.{H32, parent_of}
use borrow.Author.Rules.{rules}
use Rattle.hash.proofs.parent.Goals as goal

pub returns : goal.returns
unfolding parent_of H32
returns c =
    let g = c.args in
    let b : List ℕ = set (replicate 65 0) 0 1 in
    let n : length g.left ≡ 32 = search rules in
    let m : length g.right ≡ 32 = search rules in
    let put = c.put-2.ensures ∙ ap (λ (l : List ℕ). pasted l 33 g.right) c.put.ensures in
    let both = put ∙ pasted-twice b g.left g.right 1 33 (omega arith) (omega arith) in
    c.front.ensures ∙ ap (take 32) (c.sha512.ensures ∙ ap Sha512 both)
