-- The contract settles the result, and what is left in the lent buffer.
use mathlib.Core.Path.{sym, ap, ◌∙◌}
use mathlib.Core.List.{List}
use Prim.Native.Nat.{ℕ}
use Rattle.laws.proofs.Once.{Settles}
use Rattle.wire_request.proofs.Answered.{leaves-once}
use Rattle.server_response.proofs.responding.write_response.Kinds as response-kinds
use Rattle.server_response.proofs.responding.write_response.Reads as response-reads

pub write-response-once : Settles response-kinds.ps response-kinds.r response-reads.Learnt
write-response-once κs a x u y v p q = (
  p.0 ∙ sym q.0,
  ap (λ (out : List ℕ). (tt, (tt, (tt, (tt, (tt, (tt, (tt, (tt, (out, tt)))))))))) (leaves-once _ _ _ p q),
)
