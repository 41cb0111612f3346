-- `pile_tally::passing::pile_contradicts` meets its contract. The verdicts of the array are those on the pile's
-- records.
use Rattle.check_response.specs.declared.Window.{Window}
use Rattle.std.specs.Prelude.{Err, Result}
use Rattle.std.proofs.lemmas.List.{get_or-take}
use mathlib.Core.Path.{◌≡◌, ap, ◌∙◌}
use mathlib.Core.Bool.{Bool, not}
use mathlib.Core.List.{List}
use Prim.Native.Nat.{ℕ, ◌+◌, ◌*◌, ◌≤◌, ◌<◌}
use borrow.Author.Rules.{rules}
use lib.ListN.{length, take, length-take}
use Rattle.pile.specs.Layout.{RECORD}
use native.Mathlib.Omega.{arith}
use Rattle.refusal.proofs.Passing.{passed-on, refused-by, none-left, test-on, test-refuses}
use Rattle.refusal.specs.Refusal.{refusal, passed}
use Rattle.refusal.specs.declared.Refusal.{Refusal}
use Rattle.pile.specs.Meaning.{GoodPile}
use Rattle.pile.specs.Pile.{records_in, pile_code}
use Rattle.pile_report.proofs.Runs.{judged-told}
use Rattle.pile_report.proofs.Says.{good_of}
use Rattle.pile_report.specs.Report.{judged}
use Rattle.pile_runs.specs.Convict.{verdict_in}
use Rattle.pile_tally.specs.EveryPair.{every_pair, contradiction_code}
use Rattle.pile_tally.proofs.EveryPairs.{every-pair-same}
use Rattle.pile_tally.proofs.passing.pile_contradicts.Goals as goal

-- what is said of the front of the array is said of the pile
told_of : (pile answers : List ℕ) (vs : List (Result Window Refusal)) {b : Bool} → length vs ≡ 16
    → GoodPile pile answers → ((k : ℕ) → k < records_in pile → verdict_in vs k ≡ judged pile answers k)
    → b ≡ every_pair (verdict_in (take (records_in pile) vs)) (length (take (records_in pile) vs))
    → b ≡ every_pair (judged pile answers) (records_in pile)
told_of pile answers vs long good same e =
    let n = records_in pile in
    let all : length (take n vs) ≡ n = simp length-take (omega (arith, long, good.pile-whole.to)) in
    e
    ∙ ap (every_pair (verdict_in (take n vs))) all
    ∙ every-pair-same (verdict_in (take n vs)) (judged pile answers) n
    (λ k h. get_or-take n vs k (Err passed) h ∙ same k h)

pub returns-in_err-pile_code : goal.returns-in_err-pile_code
unfolding contradiction_code pile_code
returns-in_err-pile_code c =
    let e = c.in_err-pile_code.field-0.0 in
    let told : c.pile_code.result ≡ Err e = search rules in
    let handed : c.from_residual.result ≡ Err e = search rules in
    rw handed (refused-by _ _ c.pile_code.ensures told)

pub verdicts_by-verdicts-requires-clause-most : goal.verdicts_by-verdicts-requires-clause-most
verdicts_by-verdicts-requires-clause-most c =
    (good_of c.args.pile.now c.args.answers.now c.pile_code.ensures (search rules)).pile-whole.to

pub verdicts_by-verdicts-requires-clause-callable : goal.verdicts_by-verdicts-requires-clause-callable
verdicts_by-verdicts-requires-clause-callable c = λ k h.
    let p = c.args.pile.now in
    let a = c.args.answers.now in
    let good = good_of p a c.pile_code.ensures (search rules) in
    let there : RECORD * k + RECORD ≤ length p = omega (arith, good.pile-whole.exact) in
    let answered : 2 * k + 2 ≤ length a = omega (arith, good.two) in
    search rules

pub slice_bounds-any_contradiction-end : goal.slice_bounds-any_contradiction-end
slice_bounds-any_contradiction-end c =
    let good = good_of c.args.pile.now c.args.answers.now c.pile_code.ensures (search rules) in
    simp length-take (omega (arith, good.pile-whole.to))

pub slice_bounds-verdicts-end : goal.slice_bounds-verdicts-end
slice_bounds-verdicts-end c =
    let good = good_of c.args.pile.now c.args.answers.now c.pile_code.ensures (search rules) in
    omega (arith, good.pile-whole.to)

pub returns-then-any_contradiction : goal.returns-then-any_contradiction
unfolding contradiction_code pile_code
returns-then-any_contradiction c =
    let p = c.args.pile.now in
    let a = c.args.answers.now in
    let good = good_of p a c.pile_code.ensures (search rules) in
    let same =
    c.verdicts_by-verdicts.ensures (judged p a) (λ k h r e. judged-told p a good k h (search rules)) in
    let told = told_of p a c.verdicts_by-verdicts.result (omega arith) good same c.any_contradiction.ensures in
    passed-on _ _ _ c.pile_code.ensures (search rules)
    (test-on (refusal 18) _ (ap not told) (ap not c.if-any_contradiction.true) none-left)

pub returns : goal.returns
unfolding contradiction_code pile_code
returns c =
    let p = c.args.pile.now in
    let a = c.args.answers.now in
    let good = good_of p a c.pile_code.ensures (search rules) in
    let same =
    c.verdicts_by-verdicts.ensures (judged p a) (λ k h r e. judged-told p a good k h (search rules)) in
    let told = told_of p a c.verdicts_by-verdicts.result (omega arith) good same c.any_contradiction.ensures in
    passed-on _ _ _ c.pile_code.ensures (search rules)
    (test-refuses (refusal 18) _ c.refuse.ensures tt (ap not told) (ap not c.if-any_contradiction.false))
