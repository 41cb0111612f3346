-- `report_text::publishing::write_signed_report` meets its contract.
use borrow.Author.Rules.{rules}
use mathlib.Core.Path.{refl}
use Rattle.report_write.proofs.Piles.{pair-writable, publishes-by, pair_left, refused-left}
use Rattle.pile_signed.specs.OwnAnswers.{own_answers}
use Rattle.report_text.proofs.publishing.write_signed_report.Goals as goal

pub put_report-requires : goal.put_report-requires
put_report-requires c =
    let a = c.args in
    pair-writable a.pile.now (own_answers a.pile.now)
    c.check_signed_report.ensures c.in-Ok.is

pub returns-in-Ok : goal.returns-in-Ok
returns-in-Ok c =
    let a = c.args in
    let h = c.check_signed_report.ensures in
    let p = c.put_report.ensures in record {
      publishes = publishes-by a.pile.now (own_answers a.pile.now) h _
          c.in-Ok.is p.value;
      out_after = pair_left a.pile.now a.out.now p.value p.out_after;
    }

pub returns-in-Err : goal.returns-in-Err
returns-in-Err c =
    let a = c.args in
    let h = c.check_signed_report.ensures in record { publishes = publishes-by a.pile.now (own_answers a.pile.now) h _ c.in-Err.is refl; out_after = refused-left c.in-Err.why a.out.now }
