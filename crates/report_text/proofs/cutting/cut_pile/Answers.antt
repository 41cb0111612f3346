-- `report_text::cutting::cut_pile` meets its contract.
use Rattle.std.specs.Prelude.{Err}
use mathlib.Core.Path.{◌≡◌}
use borrow.Author.Rules.{rules}
use Rattle.refusal.proofs.Passing.{error-is, error-refuses}
use Rattle.pile_report.proofs.Says.{pile-refused, good_of}
use Rattle.report_text.proofs.Cuts.{cut-bad}
use Rattle.report_text.proofs.cutting.cut_pile.Goals as goal

pub returns-in_err-pile_code : goal.returns-in_err-pile_code
returns-in_err-pile_code c =
    let a = c.args in
    let e = c.in_err-pile_code.field-0.0 in
    let told : c.pile_code.result ≡ Err e = search rules in
    let handed : c.from_residual.result ≡ Err e = search rules in
    let bad =
    pile-refused a.pile.now a.answers.now (error-is _ c.pile_code.ensures told)
    (error-refuses _ c.pile_code.ensures told) in
    let w = cut-bad a.pile.now a.answers.now a.out.now bad.0 bad.1 in
    rw handed record { cuts_text = w.0; out_after = w.1 }

pub run_in-requires : goal.run_in-requires
run_in-requires c = good_of _ _ c.pile_code.ensures (search rules)

pub put_found-requires : goal.put_found-requires
put_found-requires c = record {
  answers = c.args.answers.now;
  good = good_of _ _ c.pile_code.ensures (search rules);
  run = c.run_in.ensures;
}

pub returns : goal.returns
returns c =
    let g = good_of c.args.pile.now c.args.answers.now c.pile_code.ensures (search rules) in
    let h = c.put_found.ensures in
    record { cuts_text = h.cuts c.args.answers.now g c.run_in.ensures; out_after = h.out_after }
