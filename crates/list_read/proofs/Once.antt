-- The contract settles the result, and what is left in the lent buffer.
use mathlib.Core.Path.{sym, ap, ◌∙◌}
use mathlib.Core.List.{List}
use Prim.Native.Nat.{ℕ}
use Rattle.laws.proofs.Once.{Settles}
use Rattle.list_read.proofs.reading.read_servers.Kinds as read-servers-kinds
use Rattle.list_read.proofs.reading.read_servers.Reads as read-servers-reads

pub read-servers-once : Settles read-servers-kinds.ps read-servers-kinds.r read-servers-reads.Learnt
read-servers-once κs a x u y v p q =
    let same = p.0 ∙ sym q.0 in (same, ap (λ (out : List ℕ). (tt, (out, tt))) (cc))
