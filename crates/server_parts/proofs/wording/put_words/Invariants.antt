-- `server_parts::wording::put_words` meets its contract. The loop has put the first i words.
use mathlib.Core.Path.{◌≡◌}
use lib.ListN.{length}
use Rattle.server_parts.proofs.Words.{Worded}
use Rattle.server_parts.proofs.wording.put_words.Given as goal

abbrev pub invariant-loop-i : goal.invariant-loop-i
invariant-loop-i l = (length l.dst ≡ length l.initial.dst) × Worded l.initial.dst l.at l.ws l.i l.dst
