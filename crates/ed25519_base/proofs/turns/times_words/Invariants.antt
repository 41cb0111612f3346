-- The loop's invariant: the columns from `i` on are in.
use Rattle.ed25519_base.specs.Comb.{comb_of}
use Rattle.ed25519_base.proofs.Steps.{Multiple}
use Rattle.ed25519_base.proofs.turns.times_words.Given as goal

abbrev pub invariant-loop-i : goal.invariant-loop-i
invariant-loop-i l = Multiple (comb_of l.a l.b l.c l.d l.i) l.q
