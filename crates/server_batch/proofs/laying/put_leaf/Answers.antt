-- `server_batch::laying::put_leaf` meets its contract: where the packet is answered, and where it is not.
use mathlib.Core.List.{List}
use mathlib.Core.Path.{refl, sym, ap, ◌∙◌}
use Prim.Native.Nat.{ℕ, ◌*◌}
use native.Mathlib.Omega.{arith}
use Rattle.laws.specs.Pasted.{pasted}
use Rattle.hash.specs.Hashes.{leaf_of}
use Rattle.hash.proofs.Lengths.{length-leaf}
use Rattle.server_batch.specs.Steps.{leaf_in}
use Rattle.server_batch.proofs.Laid.{leaf-put, leaf-left}
use Rattle.server_batch.proofs.laying.put_leaf.Goals as goal

pub returns-in-Some : goal.returns-in-Some
returns-in-Some c =
    let a = c.args in
    let q = a.chosen.packets in
    let got = rw c.in-Some.is at c.answered.ensures in
    let node = c.leaf.ensures ∙ ap leaf_of got.1 in
    leaf-put (sym got.0) (leaf_in q.slots.now q.slot q.lengths.now a.i) a.k refl (length-leaf _)
    (c.put.ensures ∙ ap (λ (l : List ℕ). pasted a.rows.now (32 * a.k) l) node) c.requires.1

pub returns-in-None : goal.returns-in-None
returns-in-None c =
    let got = rw c.in-None.is at c.answered.ensures in
    leaf-left (sym got) _ _ refl (omega (arith, c.requires.1))
