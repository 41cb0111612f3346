-- `server_batch::measuring::put_lengths` meets its contract. The loop keeps: the first `i` lengths are there.
use mathlib.Core.Bool.{cond}
use mathlib.Core.Path.{◌≡◌, refl, ap, ◌∙◌}
use Prim.Native.Nat.{ℕ, ◌<◌}
use native.Mathlib.Omega.{arith}
use lib.ListN.{length, get_or}
use Rattle.laws.specs.Upto.{upto}
use Rattle.server_batch.specs.Steps.{stay_test, stay_at, length_in}
use Rattle.server_batch.proofs.Picked.{front-ahead, front-next, front-whole, front_length}
use Rattle.server_batch.proofs.measuring.put_lengths.Goals as goal

pub loop-i-init : goal.loop-i-init
unfolding upto
loop-i-init c = refl

pub bounds-marks-i : goal.bounds-marks-i
bounds-marks-i c =
    let long = front_length _ _ _ (omega arith) c.loop-i.invariant in
    omega (arith, long)

pub bounds-marks-i-in-loop-i : goal.bounds-marks-i-in-loop-i
bounds-marks-i-in-loop-i c =
    let long = front_length _ _ _ (omega arith) c.loop-i.invariant in
    omega (arith, long)

pub loop-i-preserved : goal.loop-i-preserved
unfolding length_in stay_at
loop-i-preserved c =
    let a = c.args in
    let l = c.loop-i in
    let below : l.i < length a.marks.now = omega arith in
    let mark = front-ahead _ _ l.i 0 l.invariant in
    let is =
    c.length_of.ensures
    ∙ ap (λ (m : ℕ). cond (stay_test m (get_or a.lengths.now l.i 0) a.least) a.size 0) mark in
    front-next _ _ l.i _ 0 below l.invariant is

pub returns : goal.returns
returns c =
    let all : c.loop-i.i ≡ length c.args.lengths.now = omega arith in
    front-whole _ _ c.loop-i.i _ all c.loop-i.invariant

pub shape_of-marks : goal.shape_of-marks
shape_of-marks c = front_length _ _ _ (omega arith) c.loop-i.invariant
