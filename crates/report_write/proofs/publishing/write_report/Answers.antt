-- `report_write::publishing::write_report` meets its contract.
use mathlib.Core.Path.{refl}
use Rattle.report_write.proofs.Piles.{pair-writable, publishes-by, pair_left, refused-left}
use Rattle.report_write.proofs.publishing.write_report.Goals as goal

pub put_report-requires : goal.put_report-requires
put_report-requires c =
    let a = c.args in
    pair-writable a.pile.now a.answers.now c.check_report.ensures
    c.in-Ok.is

pub returns-in-Ok : goal.returns-in-Ok
returns-in-Ok c =
    let a = c.args in
    let p = c.put_report.ensures in record {
      publishes = publishes-by a.pile.now a.answers.now
          c.check_report.ensures _
          c.in-Ok.is p.value;
      out_after = pair_left a.pile.now a.out.now p.value p.out_after;
    }

pub returns-in-Err : goal.returns-in-Err
returns-in-Err c =
    let a = c.args in record {
      publishes = publishes-by a.pile.now a.answers.now c.check_report.ensures _
          c.in-Err.is refl;
      out_after = refused-left c.in-Err.why a.out.now;
    }
