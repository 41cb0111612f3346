use native.Mathlib.Omega.{arith}
use Rattle.list_read.proofs.Records.{Laying, laying-first, laying-done, laying-length, laying-asks, laying-fit, laying-on}
use Rattle.list_read.proofs.reading.put_all.Goals as goal

pub loop-i-init : goal.loop-i-init
loop-i-init c = laying-first _ _ _ c.requires.0 c.requires.1

pub put_record-requires : goal.put_record-requires
put_record-requires c =
    let y = c.loop-i.invariant in (laying-asks y (omega arith), laying-fit y (omega arith))

pub loop-i-preserved : goal.loop-i-preserved
loop-i-preserved c = laying-on c.loop-i.invariant (omega arith) c.put_record.ensures

pub shape_of-out : goal.shape_of-out
shape_of-out c = laying-length c.loop-i.invariant

pub returns : goal.returns
returns c = laying-done c.loop-i.invariant (omega arith)
