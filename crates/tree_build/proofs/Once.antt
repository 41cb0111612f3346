-- Each operation's contract settles its result, and what it leaves in the lent buffer.
use mathlib.Core.Path.{refl, sym, ap, ◌∙◌}
use mathlib.Core.List.{List}
use Prim.Native.Nat.{ℕ}
use Rattle.laws.proofs.Once.{Settles}
use Rattle.tree_build.proofs.build.root.Kinds as root-kinds
use Rattle.tree_build.proofs.build.root.Reads as root-reads
use Rattle.tree_build.proofs.build.path.Kinds as path-kinds
use Rattle.tree_build.proofs.build.path.Reads as path-reads
use Rattle.tree_build.proofs.build.rows.Kinds as rows_kinds
use Rattle.tree_build.proofs.build.rows.Reads as rows-reads
use Rattle.tree_build.proofs.build.path_from.Kinds as path-from-kinds
use Rattle.tree_build.proofs.build.path_from.Reads as path-from-reads
use Rattle.tree_build.proofs.size.rows_length.Kinds as rows-length-kinds
use Rattle.tree_build.proofs.size.rows_length.Reads as rows-length-reads

pub root-once : Settles root-kinds.ps root-kinds.r root-reads.Learnt
root-once κs a x u y v p q = (p ∙ sym q, refl)

pub path-once : Settles path-kinds.ps path-kinds.r path-reads.Learnt
path-once κs a x u y v p q =
    let same = p.0 ∙ sym q.0 in
    (same, ap (λ (out : List ℕ). (tt, (tt, (out, tt)))) (cc))

pub rows-once : Settles rows_kinds.ps rows_kinds.r rows-reads.Learnt
rows-once κs a x u y v p q =
    let same = p.0 ∙ sym q.0 in
    (same, ap (λ (out : List ℕ). (tt, (out, tt))) (cc))

pub path-from-once : Settles path-from-kinds.ps path-from-kinds.r path-from-reads.Learnt
path-from-once κs a x u y v p q =
    let same = p.0 ∙ sym q.0 in
    (same, ap (λ (out : List ℕ). (tt, (tt, (tt, (out, tt))))) (cc))

pub rows-length-once : Settles rows-length-kinds.ps rows-length-kinds.r rows-length-reads.Learnt
rows-length-once κs a x u y v p q = (p ∙ sym q, refl)
