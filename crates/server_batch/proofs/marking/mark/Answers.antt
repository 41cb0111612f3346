-- `server_batch::marking::mark` meets its contract. The loop keeps: the first `i` marks are there.
use mathlib.Core.Path.{◌≡◌, refl, ap, ◌∙◌}
use native.Mathlib.Omega.{arith}
use lib.ListN.{length}
use mir.Val.{bool_byte}
use Rattle.laws.specs.Upto.{upto}
use Rattle.server_batch.proofs.Meant.{mark-is}
use Rattle.server_batch.proofs.Picked.{front-next, front-whole, front_length}
use Rattle.server_batch.proofs.marking.mark.Goals as goal

pub loop-i-init : goal.loop-i-init
unfolding upto
loop-i-init c = refl

pub bounds-marks-i : goal.bounds-marks-i
bounds-marks-i c =
    let long = front_length _ _ _ (omega arith) c.loop-i.invariant in
    omega (arith, long)

pub loop-i-preserved : goal.loop-i-preserved
loop-i-preserved c =
    let is = c.from.ensures ∙ ap bool_byte c.meant_at.ensures ∙ mark-is _ in
    front-next _ _ c.loop-i.i _ 0 (omega arith) c.loop-i.invariant is

pub returns : goal.returns
returns c =
    let all : c.loop-i.i ≡ length c.args.packets.lengths.now = omega arith in
    front-whole _ _ c.loop-i.i _ all c.loop-i.invariant

pub shape_of-marks : goal.shape_of-marks
shape_of-marks c = front_length _ _ _ (omega arith) c.loop-i.invariant
