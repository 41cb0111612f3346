-- The loop's invariant: from `i` on there is no digit.
use Rattle.ed25519_windows.specs.OddDigits.{Above}
use Rattle.ed25519_windows.proofs.recoding.top.Given as goal

abbrev pub invariant-loop-i : goal.invariant-loop-i
invariant-loop-i l = Above l.d l.i × Above l.e l.i
