-- The loop's invariant: the digits of both scalars from `i` on are in.
use Rattle.ed25519_windows.proofs.Pairs.{Sum}
use Rattle.ed25519_windows.proofs.turns.times_two.Given as goal

abbrev pub invariant-loop-i : goal.invariant-loop-i
invariant-loop-i l = Sum l.v l.d l.e l.i l.q
