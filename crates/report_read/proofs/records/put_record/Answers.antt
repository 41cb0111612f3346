-- `report_read::records::put_record` meets its contract.
use borrow.Author.Rules.{rules}
use Prim.Native.Nat.{◌+◌, ◌-◌}
use mathlib.Core.Path.{◌≡◌}
use native.Mathlib.Omega.{arith}
use Rattle.report_read.proofs.Areas.{record-pasted, short-asked, short-said}
use Rattle.report_read.proofs.records.put_record.Goals as goal

pub overflow_cast-e : goal.overflow_cast-e
overflow_cast-e c = let h = short-asked c.requires.0 in omega arith

pub overflow_cast-e-2 : goal.overflow_cast-e-2
overflow_cast-e-2 c = let h = short-said c.requires.0 in omega arith

pub returns : goal.returns
returns c =
    let a = c.args in
    let p = c.requires in
    let n : a.at + 96 - (a.at + 72) ≡ 24 = omega arith in
    record-pasted p.0.ready _ _ a.out.now a.at c.put_names.ensures
    c.put_sizes.ensures (rw n at c.zero.ensures) c.put_packets.ensures
    p.0.spot.asked p.0.spot.said p.1
