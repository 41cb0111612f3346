use borrow.Author.Rules.{rules}
use Prim.Native.Nat.{◌-◌}
use native.Mathlib.Omega.{arith}
use Rattle.laws.proofs.Filled.{filled-length}
use Rattle.report_read.proofs.Piles.{Lays, laying-first, laying-done, laying-writable, laying-fit, laying-on}
use Rattle.report_read.proofs.reading.put_all.Goals as goal

pub loop-i-init : goal.loop-i-init
loop-i-init c =
    let p = c.requires in record { told = p.0; laying = laying-first p.0 p.1.1 }

pub put_record-requires : goal.put_record-requires
put_record-requires c =
    let l = c.loop-i.invariant in
    let h = c.loop-i-test.true in
    (laying-writable l.told l.laying h (omega arith), laying-fit l.told l.laying h (omega arith))

pub loop-i-preserved : goal.loop-i-preserved
loop-i-preserved c =
    let l = c.loop-i.invariant in
    record {
      told = l.told;
      laying =
          laying-on l.told l.laying c.loop-i-test.true (omega arith)
          c.put_record.ensures;
    }

pub shape_of-out : goal.shape_of-out
shape_of-out c =
    omega (arith, filled-length c.loop-i.invariant.laying.filled)

pub returns : goal.returns
returns c =
    let l = c.loop-i.invariant in laying-done l.told l.laying c.loop-i-test.false
