-- `report_write::publishing::put_report` meets its contract.
use native.Mathlib.Omega.{arith}
use Rattle.report_write.specs.Entries.{text_of}
use Rattle.report_write.proofs.Piles.{report-short, report-done}
use Rattle.report_write.proofs.publishing.put_report.Goals as goal

pub text_size-size-requires : goal.text_size-size-requires
text_size-size-requires c = let w = c.requires in (w.piled, w.few)

pub returns-then-out-size : goal.returns-then-out-size
unfolding text_of
returns-then-out-size c =
    let a = c.args in
    let w = report-short a.pile.now a.out.now c.text_size-size.ensures c.if-out-size.true in
    rw c.refuse.ensures record { value = w.0; out_after = w.1 }

pub put_text-requires : goal.put_text-requires
put_text-requires c =
    let w = c.requires in
    let e = c.text_size-size.ensures in (w.piled, omega (arith, c.if-out-size.false))

pub returns : goal.returns
unfolding text_of
returns c =
    let a = c.args in
    let w = report-done a.pile.now a.out.now c.text_size-size.ensures c.if-out-size.false c.put_text.ensures in
    record { value = w.0; out_after = w.1 }
