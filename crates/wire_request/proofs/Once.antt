-- Each operation's contract settles its result, and what it leaves in the lent buffer.
use mathlib.Core.Path.{sym, ap, ◌∙◌}
use mathlib.Core.List.{List}
use Prim.Native.Nat.{ℕ}
use Rattle.laws.proofs.Once.{Settles}
use Rattle.wire_request.proofs.Answered.{leaves-once}
use Rattle.wire_request.proofs.request.write_request.Kinds as request-kinds
use Rattle.wire_request.proofs.request.write_request.Reads as request-reads
use Rattle.wire_request.proofs.texts.delegation_text.Kinds as delegation-kinds
use Rattle.wire_request.proofs.texts.delegation_text.Reads as delegation-reads
use Rattle.wire_request.proofs.texts.response_text.Kinds as response-kinds
use Rattle.wire_request.proofs.texts.response_text.Reads as response-reads

pub write-request-once : Settles request-kinds.ps request-kinds.r request-reads.Learnt
write-request-once κs a x u y v p q =
    (p.0 ∙ sym q.0, ap (λ (out : List ℕ). (tt, (tt, (out, tt)))) (leaves-once _ _ _ p q))

pub delegation-text-once : Settles delegation-kinds.ps delegation-kinds.r delegation-reads.Learnt
delegation-text-once κs a x u y v p q =
    (p.0 ∙ sym q.0, ap (λ (out : List ℕ). (tt, (out, tt))) (leaves-once _ _ _ p q))

pub response-text-once : Settles response-kinds.ps response-kinds.r response-reads.Learnt
response-text-once κs a x u y v p q =
    (p.0 ∙ sym q.0, ap (λ (out : List ℕ). (tt, (out, tt))) (leaves-once _ _ _ p q))
