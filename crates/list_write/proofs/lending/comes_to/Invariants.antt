-- `list_write::lending::comes_to` meets its contract: the lengths from i on are to come to what is left.
use borrow.Author.Rules.{rules}
use Prim.Native.Nat.{◌-◌}
use mathlib.Core.Path.{◌≡◌, refl, ◌∙◌}
use lib.Dec.{eqb}
use lib.ListN.{length, drop}
use Rattle.list_write.specs.Lent.{total}
use Rattle.list_write.proofs.Lends.{total-over, total-turn, total-end}
use Rattle.list_write.proofs.lending.comes_to.Given as goal

abbrev pub invariant-loop-length : goal.invariant-loop-length
invariant-loop-length l =
    eqb (total (drop l.length-index l.lengths)) l.left ≡ eqb (total l.lengths) l.n
