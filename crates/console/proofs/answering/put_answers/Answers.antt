-- `console::answering::put_answers` meets its contract. What is answered says how many bytes were written.
use Rattle.refusal.specs.declared.Refusal.{Refusal}
use Rattle.std.specs.Prelude.{Result, ℕ}
use mathlib.Core.Path.{sym, ap, ◌∙◌}
use native.Mathlib.Omega.{arith}
use Rattle.laws.specs.Written.{written}
use Rattle.pile.specs.Pile.{length_bad}
use Rattle.refusal.specs.Refusal.{when}
use Rattle.wire_request.specs.Answered.{wrote_number, wrote_length}
use Rattle.wire_request.proofs.Answered.{done-exactly}
use Rattle.pile_signed.specs.OwnAnswers.{own_answers}
use borrow.Author.Rules.{rules}
use Rattle.console.proofs.answering.put_answers.Goals as goal

pub returns-in-Ok : goal.returns-in-Ok
returns-in-Ok c =
    let n = c.in-Ok.n in
    let told = c.pile_answers in
    let p = c.args.pile.now in
    let o = c.args.out.now in
    let e = sym told.ensures.value ∙ c.in-Ok.is in record { upper_bound = (((done-exactly (when (length_bad p) 15) (own_answers p) o n).0 e).1.1, sym (ap wrote_length e)); out_after = told.ensures.out_after ∙ ap (λ (w : Result ℕ Refusal). written (wrote_number w) (own_answers p) o) told.ensures.value }

pub returns-in-Err : goal.returns-in-Err
returns-in-Err c =
    let told = c.pile_answers in
    let p = c.args.pile.now in
    let o = c.args.out.now in
    let e = sym told.ensures.value ∙ c.in-Err.is in record { upper_bound = (omega arith, sym (ap wrote_length e)); out_after = told.ensures.out_after ∙ ap (λ (w : Result ℕ Refusal). written (wrote_number w) (own_answers p) o) told.ensures.value }
