-- `report_write::sizing::text_size` meets its contract: what is counted and what is left come to the whole.
use mathlib.Core.Path.{refl}
use Prim.Native.Nat.{◌-◌}
use native.Mathlib.Omega.{arith}
use Rattle.report_write.proofs.Lists.{sizing-first, sizing-as, sizing-next, sizing-end, sizing-here, sizing-fits}
use Rattle.report_write.proofs.Lists.{sizing-last, sizing-on}
use Rattle.report_write.proofs.sizing.text_size.Goals as goal

pub overflow_sub-last : goal.overflow_sub-last
overflow_sub-last c = let h = c.requires.0.some_left in omega arith

pub loop-k-init : goal.loop-k-init
loop-k-init c =
    let h = c.requires.0.some_left in
    sizing-as (sizing-first c.args.p.now c.args.n c.requires.0) refl refl (omega arith) refl

pub record_at-r-requires : goal.record_at-r-requires
record_at-r-requires c = (sizing-here c.loop-k.invariant).inside

pub object_size-requires : goal.object_size-requires
object_size-requires c = sizing-fits c.loop-k.invariant c.record_at-r.ensures

pub loop-k-preserved : goal.loop-k-preserved
loop-k-preserved c =
    let h = c.loop-k-test.true in
    let x = c.object_size.ensures in
    sizing-next c.loop-k.k (c.args.n - 1) c.loop-k.size c.object_size.result
    (sizing-on c.loop-k.invariant c.record_at-r.ensures x.0 x.1 (λ e. omega (arith, e)))

pub record_at-r-requires-2 : goal.record_at-r-requires-2
record_at-r-requires-2 c = (sizing-here (sizing-end c.loop-k.invariant c.loop-k-test.false)).inside

pub object_size-requires-2 : goal.object_size-requires-2
object_size-requires-2 c = sizing-fits (sizing-end c.loop-k.invariant c.loop-k-test.false) c.record_at-r-2.ensures

pub returns : goal.returns
returns c =
    let x = c.object_size-2.ensures in
    sizing-last (sizing-end c.loop-k.invariant c.loop-k-test.false) c.record_at-r-2.ensures x.0 x.1 refl
