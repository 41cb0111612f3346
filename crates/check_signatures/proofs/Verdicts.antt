-- Signatures are judged last: what the check answers to a response is by cases on what it answers where both signatures
-- verify, and then on 12 and 13.
use Rattle.std.specs.Prelude.{Err, Ok}
use Prim.Native.Nat.{ℕ}
use mathlib.Core.Path.{◌≡◌, refl, sym, ap, ap₂, ◌∙◌}
use mathlib.Core.Bool.{Bool, true, false, cond}
use mathlib.Core.List.{List, [], ◌∷◌}
use borrow.Author.Tests.{eq-eqb, eqb-false}
use lib.Dec.{eqb}
use Rattle.ed25519.specs.Verification.{verifies}
use Rattle.laws.specs.First.{first_of, when_of}
use Rattle.laws.proofs.First.{says-0, is_last, row-quiet, quiet_of}
use Rattle.wire_message.specs.Tags.{SIG, PUBK}
use Rattle.wire_message.specs.Values.{value_of}
use Rattle.refusal.specs.Refusal.{refusals, first}
use Rattle.refusal.specs.declared.Refusal.{Refusal}
use Rattle.check_response.specs.Check.{answers_code, agreement_code, check_code, window_in, pubk_in, verdict_by}
use Rattle.check_response.specs.Check.{verdict_of, key_of, checked_of, verdict_number}
use Rattle.check_response.specs.declared.Checked.{Checked}
use Rattle.check_response.specs.declared.Window.{Window}
use Rattle.check_response.proofs.Lent.{by-valid, valid-by, by-refused, key-by, verdict-says}
use Rattle.wire_packet.specs.Packet.{body}
use Rattle.wire_packet.specs.Response.{cert, dele, response_message_code, response_code, signed_code}
use Rattle.wire_request.specs.Texts.{delegation_text, response_text}
use Rattle.check_signatures.specs.SignatureAnswers.{delegated, responded}

-- ---- rows of checks of which only the last differs

-- x is the refusal of a row that ends with yes, y that of the same row with another end, and z that end: y is x where x
-- refuses, and else z
pub record Until (x y z : Refusal) : Type 0 where
  pub refused : (x.code ≡ 0 → ⊥) → y ≡ x
  pub passed : x.code ≡ 0 → y ≡ z

pub until-more : (a b c : Refusal) (xs ys : List Refusal) {z : Refusal} → Until (first (b ∷ xs)) (first (c ∷ ys)) z
    → Until (first (a ∷ b ∷ xs)) (first (a ∷ c ∷ ys)) z
unfolding first_of
until-more a b c xs ys {z} u = by (eqb a.code 0) refl
  where
    by : (t : Bool) → eqb a.code 0 ≡ t → Until (cond t (first (b ∷ xs)) a) (cond t (first (c ∷ ys)) a) z
    by true e = u
    by false e = record { refused = λ n. refl; passed = λ q. absurd (eqb-false a.code 0 e q) }

pub until-last : {x y z : Refusal} → Until x y z → Until (first (x ∷ [])) (first (y ∷ [])) z
unfolding first_of
until-last u = u

module _ (q p : List ℕ) (d s : Bool) where
  until-answers : Until (answers_code true true) (answers_code d s) (answers_code d s)
  unfolding answers_code when_of first_of
  until-answers = record { refused = λ n. absurd (n refl); passed = λ e. refl }

  until-agreement : Until (agreement_code q (body q) (body p) true true) (agreement_code q (body q) (body p) d s)
      (answers_code d s)
  unfolding agreement_code
  until-agreement =
      until-more _ _ _ _ _
      (until-more _ _ _ _ _
      (until-more _ _ _ _ _ (until-more _ _ _ _ _ (until-more _ _ _ _ _ (until-last until-answers)))))

  -- the check: where something refuses the response with two answers of yes, that is told whatever the answers are; and
  -- else 12 and 13
  pub until-check : Until (check_code q p true true) (check_code q p d s) (answers_code d s)
  unfolding check_code
  until-check = until-more _ _ _ _ _ (until-more _ _ _ _ _ (until-last until-agreement))

  -- both clauses of the check, from what it answers
  pub check-clauses : {r : Checked} → r ≡ checked_of q p d s
      → (verdict_number r.verdict ≡ (check_code q p d s).code) × (r ≡ checked_of q p d s)
  unfolding verdict_of
  check-clauses e = (
    ap (λ (x : Checked). verdict_number x.verdict) e ∙ verdict-says (check_code q p d s) (window_in (body p)),
    e,
  )

-- answers by their refusals
pub same-checked : (q p : List ℕ) (d s e t : Bool) → check_code q p d s ≡ check_code q p e t
    → checked_of q p d s ≡ checked_of q p e t
unfolding verdict_of key_of
same-checked q p d s e t f = rw f

-- ---- a response that the check refuses, or does not, where both signatures verify

module _ (q p : List ℕ) (d s : Bool) {r : Checked} (e : r ≡ checked_of q p true true) where
  -- it is refused: that is the answer,
  pub told-anyway : (why : Refusal) → r.verdict ≡ Err why → r ≡ checked_of q p d s
  unfolding verdict_of
  told-anyway why f =
      let v : verdict_by (check_code q p true true) (window_in (body p)) ≡ Err why =
      sym (ap (λ (x : Checked). x.verdict) e) ∙ f in
      let n = by-refused (check_code q p true true) (window_in (body p)) why v in
      e ∙ same-checked q p true true d s (sym ((until-check q p d s).refused n))

  -- it passes: no code applies to it where both verify,
  module _ (w : Window) (f : r.verdict ≡ Ok w) where
    pub passed-code : (check_code q p true true).code ≡ 0
    unfolding verdict_of
    passed-code =
        let v : verdict_by (check_code q p true true) (window_in (body p)) ≡ Ok w =
        sym (ap (λ (x : Checked). x.verdict) e) ∙ f in
        (by-valid (check_code q p true true) (window_in (body p)) w v).0

    -- so that only 12 and 13 are left,
    pub left-code : check_code q p d s ≡ answers_code d s
    left-code = (until-check q p d s).passed passed-code

    -- and where neither applies the answer stays
    pub passed-still : (answers_code d s).code ≡ 0 → r ≡ checked_of q p d s
    unfolding verdict_of key_of
    passed-still z =
        let a = check_code q p true true in
        let b = check_code q p d s in
        let m : b.code ≡ 0 = ap (λ (x : Refusal). x.code) left-code ∙ z in
        let w = window_in (body p) in
        let k = pubk_in (body p) in
        e
        ∙ ap₂ (λ (v : _) (key : List ℕ). record { verdict = v; pubk = key })
        (valid-by a w passed-code ∙ sym (valid-by b w m)) (key-by a k passed-code ∙ sym (key-by b k m))

-- ---- what is verified

-- to a response that is not refused none of the codes 1 to 7 applies, so that it has texts,
has-texts : (p : List ℕ) → (response_code p).code ≡ 0 → (signed_code p).code ≡ 0
unfolding response_code response_message_code signed_code
has-texts p z =
    let a = row-quiet refusals _ _ z in
    let b = row-quiet refusals _ _ (row-quiet refusals _ _ a.1).0 in
    quiet_of refusals (says-0 refusals _ _ refl a.0 (is_last refusals refl)) b.0

pub checked-texts : (q p : List ℕ) → (check_code q p true true).code ≡ 0 → (signed_code p).code ≡ 0
unfolding check_code
checked-texts q p z = has-texts p (row-quiet refusals _ _ (row-quiet refusals _ _ z).1).0

-- and where it has, an answer is whether its signature verifies;
module _ (key p : List ℕ) (z : (signed_code p).code ≡ 0) where
  pub delegated-as : delegated key p ≡ verifies key (delegation_text p) (value_of (cert (body p)) SIG)
  unfolding delegated
  delegated-as = rw (eq-eqb (signed_code p).code 0 z)

  pub responded-as : responded p ≡ verifies (value_of (dele (body p)) PUBK) (response_text p) (value_of (body p) SIG)
  unfolding responded
  responded-as = rw (eq-eqb (signed_code p).code 0 z)
