-- Each operation's contract settles its result.
use mathlib.Core.Path.{refl, sym, ◌∙◌}
use Rattle.laws.proofs.Once.{Settles}
use Rattle.wire_message.proofs.frame.frame_code.Kinds as frame-code-kinds
use Rattle.wire_message.proofs.frame.frame_code.Reads as frame-code-reads
use Rattle.wire_message.proofs.rules.message_code.Kinds as message-code-kinds
use Rattle.wire_message.proofs.rules.message_code.Reads as message-code-reads

pub frame-code-once : Settles frame-code-kinds.ps frame-code-kinds.r frame-code-reads.Learnt
frame-code-once κs a x u y v p q = (p ∙ sym q, refl)

pub message-code-once : Settles message-code-kinds.ps message-code-kinds.r message-code-reads.Learnt
message-code-once κs a x u y v p q = (p ∙ sym q, refl)
