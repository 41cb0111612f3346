-- Each operation's contract settles its result, and what it leaves in the lent buffer.
use mathlib.Core.Path.{sym, ap, ◌∙◌}
use mathlib.Core.List.{List}
use Prim.Native.Nat.{ℕ}
use Rattle.laws.proofs.Once.{Settles}
use Rattle.wire_request.proofs.Answered.{leaves-once}
use Rattle.server_parts.proofs.signing.write_srep.Kinds as srep-kinds
use Rattle.server_parts.proofs.signing.write_srep.Reads as srep-reads
use Rattle.server_parts.proofs.delegating.write_dele.Kinds as dele-kinds
use Rattle.server_parts.proofs.delegating.write_dele.Reads as dele-reads
use Rattle.server_parts.proofs.delegating.write_cert.Kinds as cert-kinds
use Rattle.server_parts.proofs.delegating.write_cert.Reads as cert-reads

pub write-srep-once : Settles srep-kinds.ps srep-kinds.r srep-reads.Learnt
write-srep-once κs a x u y v p q =
    (p.0 ∙ sym q.0, ap (λ (out : List ℕ). (tt, (tt, (tt, (out, tt))))) (leaves-once _ _ _ p q))

pub write-dele-once : Settles dele-kinds.ps dele-kinds.r dele-reads.Learnt
write-dele-once κs a x u y v p q =
    (p.0 ∙ sym q.0, ap (λ (out : List ℕ). (tt, (tt, (tt, (out, tt))))) (leaves-once _ _ _ p q))

pub write-cert-once : Settles cert-kinds.ps cert-kinds.r cert-reads.Learnt
write-cert-once κs a x u y v p q =
    (p.0 ∙ sym q.0, ap (λ (out : List ℕ). (tt, (tt, (tt, (tt, (out, tt)))))) (leaves-once _ _ _ p q))
