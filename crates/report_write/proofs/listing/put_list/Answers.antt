-- `report_write::listing::put_list` meets its contract.
use mathlib.Core.Path.{refl}
use Prim.Native.Nat.{◌-◌}
use native.Mathlib.Omega.{arith}
use Rattle.report_write.proofs.Lists.{putting-first, putting-as, putting-next, putting-last, putting-fits, putting-room}
use Rattle.report_write.proofs.Lists.{putting-here, last_fit, last_done, comma-fit, comma-on}
use Rattle.report_write.proofs.listing.put_list.Goals as goal

pub overflow_sub-last : goal.overflow_sub-last
overflow_sub-last c = let h = c.requires.0.some_left in omega arith

pub loop-k-init : goal.loop-k-init
loop-k-init c =
    let h = c.requires.0.some_left in
    putting-as (putting-first c.args.p.now c.args.out.now c.args.n c.requires.0 c.requires.1) refl refl (omega arith)

pub record_at-r-requires : goal.record_at-r-requires
record_at-r-requires c = (putting-here c.loop-k.invariant).inside

pub put_object-at-requires : goal.put_object-at-requires
put_object-at-requires c =
    let i = c.loop-k.invariant in
    let r = c.record_at-r.ensures in
    (putting-fits i r, putting-room i r)

pub put-requires : goal.put-requires
put-requires c =
    let h = c.loop-k-test.true in
    comma-fit c.loop-k.invariant c.record_at-r.ensures c.put_object-at.ensures (λ e. omega (arith, e))

pub loop-k-preserved : goal.loop-k-preserved
loop-k-preserved c =
    let h = c.loop-k-test.true in
    putting-next c.loop-k.k (c.args.n - 1)
    (comma-on c.loop-k.invariant c.record_at-r.ensures c.put_object-at.ensures (λ e. omega (arith, e)) c.put.ensures)

pub record_at-r-requires-2 : goal.record_at-r-requires-2
record_at-r-requires-2 c = (putting-here (putting-last c.loop-k.invariant c.loop-k-test.false)).inside

pub put_object-end-requires : goal.put_object-end-requires
put_object-end-requires c =
    let i = putting-last c.loop-k.invariant c.loop-k-test.false in
    let r = c.record_at-r-2.ensures in
    (putting-fits i r, putting-room i r)

pub put-requires-2 : goal.put-requires-2
put-requires-2 c =
    let i = putting-last c.loop-k.invariant c.loop-k-test.false in
    last_fit i c.record_at-r-2.ensures c.put_object-end.ensures refl

pub returns : goal.returns
returns c =
    let i = putting-last c.loop-k.invariant c.loop-k-test.false in
    last_done i c.record_at-r-2.ensures c.put_object-end.ensures refl c.put-2.ensures
