-- `report_text::cutting::cut_signed_pile` meets its contract.
use mathlib.Core.Bool.{true≢false}
use mathlib.Core.Path.{sym, ◌∙◌}
use Rattle.pile.proofs.Exactly.{whole-exactly}
use Rattle.pile.proofs.Wholes.{whole}
use Rattle.pile_signed.specs.OwnAnswers.{own_answers}
use Rattle.pile_signed.proofs.Own.{own-good}
use Rattle.report_text.proofs.Cuts.{cut-bad}
use Rattle.report_text.proofs.cutting.cut_signed_pile.Goals as goal

pub returns-then-length_bad : goal.returns-then-length_bad
returns-then-length_bad c =
    let a = c.args in
    let p = a.pile.now in
    let b = sym c.length_bad.ensures ∙ c.if-length_bad.true in
    let w = cut-bad p (own_answers p) a.out.now c.refuse.ensures
    (λ g. true≢false (sym b ∙ (whole-exactly p).1 g.pile-whole)) in
    record { cuts_text = w.0; out_after = w.1 }

pub signed_run-requires : goal.signed_run-requires
signed_run-requires c = whole c.args.pile.now (sym c.length_bad.ensures ∙ c.if-length_bad.false)

pub put_found-requires : goal.put_found-requires
put_found-requires c =
    let p = c.args.pile.now in
    record {
      answers = own_answers p;
      good = own-good p (whole p (sym c.length_bad.ensures ∙ c.if-length_bad.false));
      run = c.signed_run.ensures;
    }

pub returns : goal.returns
returns c =
    let p = c.args.pile.now in
    let g = own-good p (whole p (sym c.length_bad.ensures ∙ c.if-length_bad.false)) in
    let h = c.put_found.ensures in
    record { cuts_text = h.cuts (own_answers p) g c.signed_run.ensures; out_after = h.out_after }
