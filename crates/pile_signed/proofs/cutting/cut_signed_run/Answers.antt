-- `pile_signed::cutting::cut_signed_run` meets its contract. Each return knows which tests led to it.
use Prim.Native.Nat.{ℕ}
use mathlib.Core.Path.{◌≡◌, sym, ◌∙◌}
use mathlib.Core.Bool.{Bool, false, true≢false}
use mathlib.Core.List.{List}
use Rattle.laws.proofs.Written.{written-whole}
use Rattle.pile.specs.Pile.{length_bad}
use Rattle.pile.specs.Meaning.{WholePile, GoodPile}
use Rattle.pile.proofs.Exactly.{whole-exactly}
use Rattle.pile.proofs.Wholes.{whole}
use Rattle.pile_report.specs.Taking.{code-15, code-19, code-18}
use Rattle.pile_signed.specs.OwnAnswers.{own_answers}
use Rattle.pile_signed.proofs.Own.{own-good}
use Rattle.pile_signed.proofs.cutting.cut_signed_run.Goals as goal

-- where code 15 does not apply
whole_of : (pile : List ℕ) {t : Bool} → t ≡ length_bad pile → t ≡ false → WholePile pile
whole_of pile e f = whole pile (sym e ∙ f)

good_of : (pile : List ℕ) {t : Bool} → t ≡ length_bad pile → t ≡ false → GoodPile pile (own_answers pile)
good_of pile e f = own-good pile (whole_of pile e f)

pub returns-then-bad-clause-takes : goal.returns-then-bad-clause-takes
returns-then-bad-clause-takes c =
    let b = sym c.length_bad-bad.ensures ∙ c.if-bad.true in
    rw c.refuse.ensures (code-15 (λ g. true≢false (sym b ∙ (whole-exactly c.args.pile.now).1 g.pile-whole)))

pub returns-then-short-clause-takes : goal.returns-then-short-clause-takes
returns-then-short-clause-takes c =
    rw c.refuse-then-short.ensures (code-19 (good_of _ c.length_bad-bad.ensures c.if-bad.false) c.if-short.true)

pub signed_run-requires : goal.signed_run-requires
signed_run-requires c = whole_of _ c.length_bad-bad.ensures c.if-bad.false

pub returns-in-None-clause-takes : goal.returns-in-None-clause-takes
returns-in-None-clause-takes c =
    rw c.refuse-in-None.ensures
    (code-18 (good_of _ c.length_bad-bad.ensures c.if-bad.false) c.if-short.false c.in-None.ensures)

pub returns-in-Some-clause-takes : goal.returns-in-Some-clause-takes
returns-in-Some-clause-takes c =
    (good_of _ c.length_bad-bad.ensures c.if-bad.false, c.if-short.false, c.in-Some.ensures)

pub returns-in-Some-clause-out_after : goal.returns-in-Some-clause-out_after
returns-in-Some-clause-out_after c = written-whole c.put_run.ensures
