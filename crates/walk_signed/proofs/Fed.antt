-- The taker that needs no answers does what the walk's own does, when that is given those of our own Ed25519 under the
-- key of the server that was asked: of two results, one that the old operation's contract allows and one that the new
-- one's does, for the same state, times, rand, response and pile, both are the same, and so is what is left of the
-- pile.
use mathlib.Core.Path.{◌≡◌}
use denote.Triple.Clauses.{at_exit}
use borrow.Fn.Kinds.{ended_of}
use Rattle.walk.proofs.Once.{took-once}
use Rattle.walk.proofs.take.Kinds as take-kinds
use Rattle.walk.proofs.take.Reads as take-reads
use Rattle.walk_signed.specs.Heard.{own_heard}
use Rattle.walk_signed.proofs.taking.take_signed.Kinds as take-signed-kinds
use Rattle.walk_signed.proofs.taking.take_signed.Reads as take-signed-reads

-- `take` and `take_signed`
pub take-signed-fed : (κs : _) (a : _) (x : _) (u : _) (ιs : _) (b : _) (y : _) (v : _)
    → take-reads.Learnt κs a x (at_exit (ended_of _ take-kinds.ps take-kinds.r) κs a u)
    → take-signed-reads.Learnt ιs b y (at_exit (ended_of _ take-signed-kinds.ps take-signed-kinds.r) ιs b v)
    → a.0 ≡ b.0
    → a.1.0 ≡ own_heard b.0 b.1.0.sent b.1.0.received b.1.0.rand b.1.1.0.now
    → a.1.1.0.now ≡ b.1.1.0.now → a.1.1.1.0.now ≡ b.1.1.1.0.now
    → (x ≡ y) × (u.1.1.1.0 ≡ v.1.1.1.0)
take-signed-fed κs a x u ιs b y v p q e f g h = took-once _ _ _ _ x y _ _ (rw (e, f, g, h) at p) q
