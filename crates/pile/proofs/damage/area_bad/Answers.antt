-- `pile::damage::area_bad` meets its contract. The part of the area that is looked at is all of it from byte n on.
use Prim.Native.Nat.{◌-◌}
use mathlib.Core.Path.{refl, ap, ◌∙◌}
use mathlib.Core.Bool.{not}
use native.Mathlib.Omega.{arith}
use lib.ListN.{length, drop, length-drop}
use lib.Seq.{take_all}
use Rattle.laws.specs.Zeros.{zeros}
use Rattle.pile.specs.Layout.{AREA}
use Rattle.pile.specs.Valid.{area_bad}
use Rattle.laws.proofs.Rows.{past-lt, only}
use Rattle.pile.proofs.damage.area_bad.Goals as goal

pub returns-else-n-gt-AREA : goal.returns-else-n-gt-AREA
unfolding area_bad
returns-else-n-gt-AREA c =
    let a = c.args in
    let l = drop a.n a.area.now in
    let rest = take_all (length a.area.now - a.n) l (omega (arith, length-drop a.n a.area.now)) in
    past-lt AREA a.n _ refl (omega arith) (only (ap not (c.all_zero.ensures ∙ ap zeros rest)))
