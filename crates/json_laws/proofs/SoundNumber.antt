-- What the reader of a number passes over derives from `number`; and what the reader of blanks passes over from `ws`.
use Rattle.std.specs.Prelude.{Option, Some}
use Prim.Native.Nat.{ℕ, ◌+◌, ◌≤◌, ◌<◌}
use mathlib.Core.Path.{◌≡◌, refl, ◌∙◌}
use mathlib.Core.Bool.{Bool, true, false}
use mathlib.Core.List.{List, [], ◌∷◌}
use native.Mathlib.Omega.{arith, by_contra}
use borrow.Author.Tests.{eqb-true, eqb-false, leb-true}
use lib.Dec.{eqb, leb}
use lib.ListN.{get_or, drop}
use Rattle.laws.specs.Pick.{pick, either}
use Rattle.json_tokens.specs.Scan.{blank, digit, run, past_while}
use Rattle.json_tokens.specs.Number.{some_digits, past_minus, past_sign, whole_at, integer_at, fraction_at, signed_at, exponent_at}
use Rattle.json_tokens.specs.Number.{number_at}
use Rattle.json_tokens.proofs.Stands.{Stands, stands_at_lem}
use Rattle.json_laws.specs.Rules.{Rule, octet, within, ◌·◌, join, ◌∣◌, left, right, 1*◌, optional, absent, present}
use Rattle.json_laws.specs.Abnf
use Rattle.json_laws.proofs.Spans.{of-pick-cases, both-parts, Spans, Sound, past, bad, octet-is, spans-nothing}
use Rattle.json_laws.proofs.Spans.{spans-octet, spans-by, sound-by, sound-join, sound-then, run-some, run-spans}
use Rattle.json_laws.proofs.Spans.{while-spans}

abbrev Blank : Rule
Blank = octet 0x20 ∣ octet 0x09 ∣ octet 0x0A ∣ octet 0x0D

is-blank : (c : ℕ) → blank c ≡ true → Blank (c ∷ [])
unfolding either
is-blank c = by (eqb c 32) (eqb c 9) (eqb c 10) (eqb c 13) refl refl refl refl
  where
    by : (p q r t : Bool) → eqb c 32 ≡ p → eqb c 9 ≡ q → eqb c 10 ≡ r → eqb c 13 ≡ t
        → either p (either q (either r t)) ≡ true → Blank (c ∷ [])
    by true q r t e f g h z = left (octet-is (eqb-true _ _ e))
    by false true r t e f g h z = right (left (octet-is (eqb-true _ _ f)))
    by false false true t e f g h z = right (right (left (octet-is (eqb-true _ _ g))))
    by false false false true e f g h z = right (right (right (octet-is (eqb-true _ _ h))))
    by false false false false e f g h z = let o : ◌≡◌ {A = ℕ} 0 1 = cc in absurd (omega arith)

is_digit : (c : ℕ) → digit c ≡ true → Abnf.DIGIT (c ∷ [])
unfolding Abnf.DIGIT
is_digit c h = let p = both-parts (leb 48 c) (leb c 57) h in within (leb-true _ _ p.0) (leb-true _ _ p.1)

module _ (s : List ℕ) where
  pub spans-ws : (k : ℕ) → Spans Abnf.ws s k (past_while blank s k)
  unfolding Abnf.ws
  spans-ws k = while-spans blank is-blank k

  sound-digits : (k : ℕ) → Sound (1* Abnf.DIGIT) s k (some_digits s k)
  unfolding some_digits past_while
  sound-digits k =
      of-pick-cases (Sound (1* Abnf.DIGIT) s k) _ (λ t. bad)
      (λ t. past (run-spans digit k (run-some digit is_digit (drop k s) (some (eqb-false _ _ t)))))
    where
      some : (k + run digit (drop k s) ≡ k → ⊥) → 0 < run digit (drop k s)
      some h = by_contra 1 (run digit (drop k s)) (λ g. h (omega arith))

  spans-minus : (k : ℕ) → Spans (optional Abnf.minus) s k (past_minus s k)
  unfolding past_minus Abnf.minus
  spans-minus k =
      of-pick-cases (λ e. Spans (optional Abnf.minus) s k e) _
      (λ t. spans-by (λ x. present) (spans-octet k 0x2D (omega arith) (eqb-true _ _ t))) (λ t. spans-nothing k absent)

  spans-sign : (k : ℕ) → Spans (optional (Abnf.minus ∣ Abnf.plus)) s k (past_sign s k)
  unfolding past_sign pick either Abnf.minus Abnf.plus
  spans-sign k = by (eqb (get_or s k 0) 43) (eqb (get_or s k 0) 45) refl refl
    where
      by : (p q : Bool) → eqb (get_or s k 0) 43 ≡ p → eqb (get_or s k 0) 45 ≡ q
          → Spans (optional (Abnf.minus ∣ Abnf.plus)) s k (pick (either p q) (k + 1) k)
      by true q e f = spans-by (λ x p. present (right p)) (spans-octet k 0x2B (omega arith) (eqb-true _ _ e))
      by false true e f = spans-by (λ x p. present (left p)) (spans-octet k 0x2D (omega arith) (eqb-true _ _ f))
      by false false e f = spans-nothing k absent

  -- digits whose first is no 0
  int_of : {k : ℕ} {x : List ℕ} → (1* Abnf.DIGIT) x → Stands s k x → (get_or s k 0 ≡ 48 → ⊥) → Abnf.int x
  unfolding Abnf.DIGIT Abnf.int Abnf.digit1-9
  int_of (join (within {b = b} l h) m) t g =
      let o : 49 ≤ b = by_contra 49 b (λ n. g (stands_at_lem t ∙ omega arith)) in right
      (join (within {b = b} (omega arith) (omega arith)) m)

  whole_of : {k : ℕ} {r : Option ℕ} → Sound (1* Abnf.DIGIT) s k r → (get_or s k 0 ≡ 48 → ⊥) → Sound Abnf.int s k r
  whole_of (past {e = e} p) g =
      past (record {
        text = p.text;
        derived = int_of p.derived
            (record { rest = drop e s; text = p.stands }) g;
        stands = p.stands;
      })
  whole_of bad g = bad

  sound-whole : (k : ℕ) → Sound Abnf.int s k (whole_at s k)
  unfolding whole_at Abnf.int Abnf.zero
  sound-whole k =
      of-pick-cases (Sound Abnf.int s k) _ (λ t. past
      (spans-by (λ x. left) (spans-octet k 0x30 (omega arith) (eqb-true _ _ t))))
      (λ t. whole_of (sound-digits k) (eqb-false _ _ t))

  sound-fraction : (k : ℕ) → Sound (optional Abnf.frac) s k (fraction_at s k)
  unfolding fraction_at Abnf.frac Abnf.decimal-point
  sound-fraction k =
      of-pick-cases (Sound (optional Abnf.frac) s k) _
      (λ t. sound-by (λ x. present) (sound-join (spans-octet k 0x2E (omega arith) (eqb-true _ _ t))
      (sound-digits (k + 1))))
      (λ t. past (spans-nothing k absent))

  sound-signed : (k : ℕ) → Sound (optional (Abnf.minus ∣ Abnf.plus) · 1* Abnf.DIGIT) s k (signed_at s k)
  unfolding signed_at
  sound-signed k = sound-join (spans-sign k) (sound-digits (past_sign s k))

  sound-exponent : (k : ℕ) → Sound (optional Abnf.exp) s k (exponent_at s k)
  unfolding exponent_at pick either Abnf.exp Abnf.e
  sound-exponent k = by (eqb (get_or s k 0) 101) (eqb (get_or s k 0) 69) refl refl
    where
      by : (p q : Bool) → eqb (get_or s k 0) 101 ≡ p → eqb (get_or s k 0) 69 ≡ q
          → Sound (optional Abnf.exp) s k (pick (either p q) (signed_at s (k + 1)) (Some k))
      by true q e f =
          sound-by (λ x. present) (sound-join (spans-by (λ x. left)
          (spans-octet k 0x65 (omega arith) (eqb-true _ _ e))) (sound-signed (k + 1)))
      by false true e f =
          sound-by (λ x. present) (sound-join (spans-by (λ x. right)
          (spans-octet k 0x45 (omega arith) (eqb-true _ _ f))) (sound-signed (k + 1)))
      by false false e f = past (spans-nothing k absent)

  pub sound-number : (k : ℕ) → Sound Abnf.number s k (number_at s k)
  unfolding number_at integer_at Abnf.number
  sound-number k =
      sound-join (spans-minus k) (sound-then (sound-whole (past_minus s k))
      (λ e. sound-then (sound-fraction e) (λ f. sound-exponent f)))
