-- The check that needs no answers answers what the one with lent answers does, when it is given those of our own
-- Ed25519: of two results for the same packets, one that the old operation's contract allows and one that the new one's
-- does, both are the same.
use mathlib.Core.Path.{◌≡◌, sym, ◌∙◌}
use denote.Triple.Clauses.{at_exit}
use borrow.Fn.Kinds.{ended_of}
use Rattle.check_response.proofs.check_response.Kinds as check-kinds
use Rattle.check_response.proofs.check_response.Reads as check-reads
use Rattle.check_signatures.specs.SignatureAnswers.{delegated, responded}
use Rattle.check_signatures.proofs.checking.check_signed.Kinds as check-signed-kinds
use Rattle.check_signatures.proofs.checking.check_signed.Reads as check-signed-reads

-- `check_response` and `check_signed`
pub check-signed-fed : (κs : _) (a : _) (x : _) (u : _) (ιs : _) (b : _) (y : _) (v : _)
    → check-reads.Learnt κs a x (at_exit (ended_of _ check-kinds.ps check-kinds.r) κs a u)
    → check-signed-reads.Learnt ιs b y (at_exit (ended_of _ check-signed-kinds.ps check-signed-kinds.r) ιs b v)
    → a.0.now ≡ b.1.0.now → a.1.0.now ≡ b.1.1.0.now
    → a.1.1.0 ≡ delegated b.0 b.1.1.0.now → a.1.1.1.0 ≡ responded b.1.1.0.now → x ≡ y
check-signed-fed κs a x u ιs b y v p q e f d s = (rw (e, f, d, s) at p.1) ∙ sym q.1
