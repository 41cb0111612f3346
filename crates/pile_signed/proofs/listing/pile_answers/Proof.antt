-- `pile_signed::listing::pile_answers` meets its contract.
use mathlib.Core.Path.{◌≡◌, refl, sym, ap, ◌∙◌}
use mathlib.Core.Bool.{Bool, true, false}
use Prim.Native.Nat.{◌*◌}
use native.Mathlib.Nat.{zero-add}
use native.Mathlib.Omega.{arith}
use lib.Seq.{length-take-le}
use Rattle.laws.specs.First.{when_of}
use Rattle.laws.proofs.Written.{puts_one}
use Rattle.pile.specs.Pile.{records_in, length_bad}
use Rattle.pile.proofs.Wholes.{whole}
use Rattle.refusal.specs.Refusal.{refusal, passed, when}
use Rattle.refusal.specs.declared.Refusal.{Refusal}
use Rattle.wire_request.proofs.Answered.{writer-refused, writer-short, writer-done}
use Rattle.pile_signed.specs.OwnAnswers.{own_answers}
use Rattle.pile_signed.proofs.Own.{own-length}
use borrow.Author.Rules.{rules}
use Rattle.pile_signed.proofs.listing.pile_answers.Statement.{statement}
use Rattle.pile_signed.proofs.listing.pile_answers.Tie as tie

-- the refusal of the pile, as its length is bad or not
refused-is : (b : Bool) → b ≡ true → refusal 15 ≡ when b 15
unfolding when_of
refused-is b e = rw e

passed_is : (b : Bool) → b ≡ false → passed ≡ when b 15
unfolding when_of
passed_is b e = rw e

-- where code 15 does not apply
good_length : (c : tie.Else-length_bad) → length_bad c.before.before.before.before.args.pile.now ≡ false
good_length c = sym c.before.length_bad.ensures ∙ c.if-length_bad.false

returns : tie.Need-returns-then-length_bad
returns c =
    let i = c.before in
    let b = sym i.before.length_bad.ensures ∙ i.if-length_bad.true in
    let n = ap (λ (r : Refusal). r.code) c.refuse.ensures in
    writer-refused _ _ (c.refuse.ensures ∙ refused-is _ b) (λ z. omega (arith, n))

returns-2 : tie.Need-returns-then-out-n
returns-2 c =
    let i = c.before in
    let start = i.before.before.before.before.before in
    let p = start.args.pile.now in
    writer-short (own_answers p) start.args.out.now (passed_is _ (good_length i.before)) refl
    c.refuse-then-out-n.ensures (omega (arith, own-length p, i.if-out-n.true))

answer-bytes-requires : tie.Need-answer_bytes-bytes-requires
answer-bytes-requires c κs = whole _ (good_length c.before)

array-share-prefix-bytes : tie.Need-slice_bounds-bytes-end
array-share-prefix-bytes c =
    let w = whole _ (good_length c.before.before.before) in omega (arith, w.to)

slice-aggregate-put : tie.Need-slice_bounds-put-end
slice-aggregate-put c =
    let w = whole _ (good_length c.before.before.before.before) in
    sym (length-take-le _ _ (omega (arith, w.to, c.before.before.answer_bytes-bytes.ensures.0)))

put-requires : tie.Need-put-requires
put-requires c κs =
    let a = c.before.before in
    let n = 2 * records_in a.before.before.before.before.before.before.args.pile.now in
    let w = whole _ (good_length a.before.before) in
    omega
    (arith, length-take-le n a.answer_bytes-bytes.result (omega (arith, w.to, a.answer_bytes-bytes.ensures.0)))

returns-3 : tie.Need-returns
returns-3 c =
    let p = c.before.before in
    let a = p.before.before.before in
    let i = a.before in
    let start = i.before.before.before.before.before in
    let pile = start.args.pile.now in
    writer-done (passed_is _ (good_length i.before)) refl
    (puts_one (own_answers pile) (2 * records_in pile) (rw a.answer_bytes-bytes.ensures.1 at p.put.ensures)
    (zero-add _ ∙ own-length pile) (omega arith))

pub pile_answers_spec : {M : Type 1} → statement M
pile_answers_spec =
    tie.close
    (tie.spec
    (λ c κs. search rules)
    (λ c κs. search rules)
    returns
    (λ c. search rules)
    (λ c κs. search rules)
    returns-2
    answer-bytes-requires
    array-share-prefix-bytes
    slice-aggregate-put
    put-requires
    (λ c. search rules)
    returns-3)
