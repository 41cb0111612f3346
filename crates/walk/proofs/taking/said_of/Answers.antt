-- `walk::taking::said_of` meets its contract.
use Prim.Native.Nat.{◌*◌}
use mathlib.Core.Path.{refl}
use native.Mathlib.Omega.{arith}
use lib.ListN.{length-take}
use Rattle.walk.proofs.Taken.{ends}
use Rattle.walk.proofs.taking.said_of.Goals as goal

pub returns-then-w-n : goal.returns-then-w-n
returns-then-w-n c = (c.if-w-n.true, refl)

pub slice_bounds-check_report-end : goal.slice_bounds-check_report-end
slice_bounds-check_report-end c = simp length-take (omega arith)

pub slice_bounds-check_report-end-2 : goal.slice_bounds-check_report-end-2
slice_bounds-check_report-end-2 c = simp length-take (omega (arith, c.requires.0.to))

pub returns : goal.returns
returns c =
    let w = c.args.w in
    ends w c.args.window c.args.pile.now (2 * w.count) c.check_report-r.result c.requires.0 (omega arith) refl
    c.check_report-r.ensures
