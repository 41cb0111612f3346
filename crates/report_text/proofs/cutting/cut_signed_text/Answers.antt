-- `report_text::cutting::cut_signed_text` meets its contract.
use Rattle.report_text.proofs.Lengths.{few-fit, pile-front, front-count, front-inside, text-cut-own, text-refused}
use Rattle.pile_signed.specs.OwnAnswers.{own_answers}
use Rattle.report_text.specs.Forwarded.{pile_of}
use Rattle.report_text.proofs.cutting.cut_signed_text.Goals as goal

pub overflow_mul-pile : goal.overflow_mul-pile
overflow_mul-pile c = few-fit c.args.text.now c.read_report.ensures.value c.in-Ok.is

pub slice_bounds-pile-end : goal.slice_bounds-pile-end
slice_bounds-pile-end c =
    let r = c.read_report.ensures in front-inside c.args.text.now r.value c.in-Ok.is _ r.out_after

pub slice_bounds-cut_signed_pile-end : goal.slice_bounds-cut_signed_pile-end
slice_bounds-cut_signed_pile-end c =
    let r = c.read_report.ensures in front-count c.args.text.now r.value c.in-Ok.is _ r.out_after

pub returns-in-Ok : goal.returns-in-Ok
returns-in-Ok c =
    let a = c.args in
    let r = c.read_report.ensures in
    let h = c.cut_signed_pile.ensures in
    let w =
    text-cut-own a.text.now r.value c.in-Ok.is a.out.now
    (pile-front a.text.now r.value c.in-Ok.is _ r.out_after) (h.cuts_text, h.out_after) in
    record { forwards = w.0; out_after = w.1 }

pub returns-in-Err : goal.returns-in-Err
returns-in-Err c =
    let a = c.args in
    let w =
    text-refused a.text.now (own_answers (pile_of a.text.now)) a.out.now c.read_report.ensures.value c.in-Err.is in
    record { forwards = w.0; out_after = w.1 }
