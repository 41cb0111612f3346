-- `report_text::cutting::put_cut` meets its contract.
use Prim.Native.Nat.{◌+◌, ◌*◌}
use Rattle.laws.specs.Pasted.{part}
use Rattle.report_write.specs.Entries.{text_of}
use Rattle.report_text.proofs.Cuts.{cut-arm}
use Rattle.report_text.proofs.cutting.put_cut.Goals as goal

pub put_report-requires : goal.put_report-requires
put_report-requires c = c.requires.1.1

pub returns-in-Ok : goal.returns-in-Ok
returns-in-Ok c =
    let a = c.args in
    let p = c.put_report.ensures in
    let w =
    cut-arm a.i a.j (text_of (part (4096 * a.i) (4096 * a.j + 4096) a.pile.now)) a.out.now p.value p.out_after
    c.in-Ok.is in
    record { value = w.0; out_after = w.1 }

pub returns-in-Err : goal.returns-in-Err
returns-in-Err c =
    let a = c.args in
    let p = c.put_report.ensures in
    let w =
    cut-arm a.i a.j (text_of (part (4096 * a.i) (4096 * a.j + 4096) a.pile.now)) a.out.now p.value p.out_after
    c.in-Err.is in
    record { value = w.0; out_after = w.1 }
