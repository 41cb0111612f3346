-- Each contract settles its result, and what is left in the lent buffer.
use Prim.Native.Nat.{ℕ}
use mathlib.Core.Path.{sym, ap, ◌∙◌}
use mathlib.Core.List.{List}
use Rattle.laws.proofs.Once.{Settles}
use Rattle.list_write.proofs.writing.write_server.Kinds as write-server-kinds
use Rattle.list_write.proofs.writing.write_server.Reads as write-server-reads
use Rattle.list_write.proofs.writing.write_servers.Kinds as write-servers-kinds
use Rattle.list_write.proofs.writing.write_servers.Reads as write-servers-reads

pub write-server-once : Settles write-server-kinds.ps write-server-kinds.r write-server-reads.Learnt
write-server-once κs a x u y v p q =
    let same = p.0 ∙ sym q.0 in (same, ap (λ (out : List ℕ). (tt, (tt, (tt, (tt, (out, tt)))))) (cc))

pub write-servers-once : Settles write-servers-kinds.ps write-servers-kinds.r write-servers-reads.Learnt
write-servers-once κs a x u y v p q =
    let same = p.0 ∙ sym q.0 in
    (same, ap (λ (out : List ℕ). (tt, (tt, (tt, (tt, (tt, (tt, (tt, (tt, (out, tt)))))))))) (cc))
