use borrow.Author.Rules.{rules}
use Prim.Native.Nat.{◌-◌}
use mathlib.Core.Path.{refl}
use mathlib.Core.Logic.{⊎_elim}
use lib.ListN.{length}
use Rattle.json_tokens.proofs.Picks.{picks}
use Rattle.report_read.proofs.Rows.{Listing, listing-first, listed-none, listing-unfit, listing-inside, listing-wrong}
use Rattle.report_read.proofs.Rows.{listing-less, listing-more, listing-end, stored-early, stored-late}
use Rattle.report_read.proofs.lists.list.Given as goal

abbrev pub invariant-loop-e : goal.invariant-loop-e
invariant-loop-e l = Listing l.s l.v l.k l.n l.big l.spots

abbrev pub decreases-loop-e : goal.decreases-loop-e
decreases-loop-e l = length l.s - l.k
