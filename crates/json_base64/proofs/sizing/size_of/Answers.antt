use native.Mathlib.Omega.{arith}
use mathlib.Core.Path.{◌∙◌, ap}
use Rattle.std.specs.Prelude.{Some}
use Rattle.json_base64.specs.Sized.{Grouped}
use Rattle.json_base64.proofs.Quads.{size-three, size-two-end, size-one-end, size-end, quad-over}
use Rattle.json_base64.proofs.Lettered.{size-letters}
use Rattle.json_base64.proofs.sizing.size_of.Goals as goal

pub loop-group-init : goal.loop-group-init
loop-group-init c =
    let l = c.groups-quick.ensures.inside in
    (omega arith, size-letters c.groups-quick.result c.groups-quick.ensures)

pub loop-group-preserved : goal.loop-group-preserved
loop-group-preserved c =
    let q : Grouped c.args.s.now c.loop-group.k _ _ = rw c.in-Four.is at c.in_ok-group.ensures in
    (omega arith, size-three _ q (ap Some c.in-Three.is) ∙ c.loop-group.invariant.1)

pub returns-in-Two : goal.returns-in-Two
returns-in-Two c =
    c.then_some.ensures ∙
    size-two-end _ (rw c.in-Four.is at c.in_ok-group.ensures)
    (ap Some c.in-Two.is) c.at_end.ensures
    ∙ c.loop-group.invariant.1

pub returns-in-One : goal.returns-in-One
returns-in-One c =
    c.then_some-in-One.ensures ∙
    size-one-end _ (rw c.in-Four.is at c.in_ok-group.ensures)
    (ap Some c.in-One.is) c.at_end-in-One.ensures
    ∙ c.loop-group.invariant.1

pub returns : goal.returns
returns c =
    size-end _ _ _ (quad-over _ _ _ c.in_ok-group.ensures c.in_default.not-Four) ∙ c.loop-group.invariant.1
