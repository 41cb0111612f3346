-- The reader of a number reads what derives from `number`, if nothing follows that would go on with it.
use Rattle.std.specs.Prelude.{None, Some}
use Prim.Native.Nat.{ℕ, zero, ◌+◌, ◌≤◌}
use mathlib.Core.Path.{◌≡◌, refl, sym, ◌∙◌}
use mathlib.Core.Bool.{Bool, true, false}
use mathlib.Core.List.{List, [], ◌∷◌, ◌++◌}
use native.Mathlib.Omega.{arith}
use borrow.Author.Tests.{ne_eqb, le-leb}
use lib.Dec.{eqb}
use lib.ListN.{length, get_or, length-append}
use Rattle.laws.specs.Pick.{pick, either, both}
use Rattle.json_tokens.specs.Scan.{then, digit, run, past_while}
use Rattle.json_tokens.specs.Number.{some_digits, past_minus, past_sign, whole_at, integer_at, fraction_at, signed_at, exponent_at}
use Rattle.json_tokens.specs.Number.{number_at}
use Rattle.json_laws.specs.Rules.{Rule, these, within, ◌·◌, join, ◌∣◌, left, right, more, 1*◌, optional, absent}
use Rattle.json_laws.specs.Rules.{present}
use Rattle.json_laws.specs.Abnf
use Rattle.json_laws.proofs.Rest.{Passes, passes, front, if-true, if-false, if-is, if-not, rest-front, rest-past}
use Rattle.json_laws.proofs.Rest.{rest-next, Reads, reads_then, One, one, many-reads}

-- ---- What may follow: digits, a number without an exponent, a number.
abbrev NoDigit : List ℕ → Type 0
NoDigit t = digit (front t) ≡ false

record NoPoint (t : List ℕ) : Type 0 where
  digit : NoDigit t
  point : front t ≡ 46 → ⊥

pub record Stops (t : List ℕ) : Type 0 where
  pub digit : digit (front t) ≡ false
  pub point : front t ≡ 46 → ⊥
  pub small : front t ≡ 101 → ⊥
  pub large : front t ≡ 69 → ⊥

digit-run : (t : List ℕ) → NoDigit t → run digit t ≡ 0
unfolding pick
digit-run [] e = refl
digit-run (c ∷ t) e = rw e refl

is_digit : (b : ℕ) → 48 ≤ b → b ≤ 57 → digit b ≡ true
unfolding both
is_digit b l h = rw (le-leb 48 b l, le-leb b 57 h) refl

digit-one : (x : List ℕ) → Abnf.DIGIT x → One digit x
unfolding Abnf.DIGIT
digit-one x (within {b = b} l h) = one (is_digit b l h)

one-length : {p : ℕ → Bool} {x : List ℕ} → One p x → length x ≡ 1
one-length (one e) = refl

neither : (m a b : ℕ) → (m ≡ a → ⊥) → (m ≡ b → ⊥) → either (eqb m a) (eqb m b) ≡ false
unfolding either
neither m a b p q = rw (ne_eqb m a p, ne_eqb m b q) refl

-- the first of some digits
some-front : (x t : List ℕ) → (1* Abnf.DIGIT) x → (48 ≤ front (x ++ t)) × (front (x ++ t) ≤ 57)
unfolding Abnf.DIGIT
some-front x t (join (within l h) m) = (l, h)

-- what follows the digits of a whole number, and those of a fraction
exp-front : (x t : List ℕ) → optional Abnf.exp x → Stops t → NoPoint (x ++ t)
unfolding Abnf.exp Abnf.e both
exp-front x t absent c = record { digit = c.digit; point = c.point }
exp-front x t (present (join (left these) q)) c = record { digit = refl; point = λ e. omega arith }
exp-front x t (present (join (right these) q)) c = record { digit = refl; point = λ e. omega arith }

frac-front : (x t : List ℕ) → (optional Abnf.frac · optional Abnf.exp) x → Stops t → NoDigit (x ++ t)
unfolding Abnf.frac Abnf.decimal-point both
frac-front x t (join {y = y} absent q) c = (exp-front y t q c).digit
frac-front x t (join (present (join these d)) q) c = refl

int-front : {R : Rule} (x t : List ℕ) → (Abnf.int · R) x → front (x ++ t) ≡ 45 → ⊥
unfolding Abnf.int Abnf.zero Abnf.digit1-9 Abnf.DIGIT
int-front x t (join (left these) r) e = omega arith
int-front x t (join (right (join (within l h) m)) r) e = omega arith

module _ (s : List ℕ) where
  some-reads : Reads s (1* Abnf.DIGIT) NoDigit (some_digits s)
  unfolding some_digits
  some-reads k z t (join {x = x} {y = y} p m) c h =
      if-not (Passes s t) None moved (passes (rw reach (rest-past (x ++ y) t h)))
    where
      reach : past_while digit s k ≡ k + length (x ++ y)
      reach = many-reads digit digit-one k (x ++ y) t (more p m) (digit-run t c) h

      moved : past_while digit s k ≡ k → ⊥
      moved e = omega (arith, reach, length-append x y, one-length (digit-one x p))

  whole-reads : Reads s Abnf.int NoDigit (whole_at s)
  unfolding whole_at Abnf.int Abnf.zero Abnf.digit1-9 Abnf.DIGIT
  whole-reads k x t (left these) c h = if-is (Passes s t) (some_digits s k) (rest-front h) (passes (rest-next h))
  whole-reads k x t (right (join {y = y} (within {b = b} l g) m)) c h =
      let f : get_or s k 0 ≡ b = rest-front h in
      if-not (Passes s t) (Some (k + 1)) (λ (e : get_or s k 0 ≡ 48). omega arith)
      (some-reads k (b ∷ y) t (join (within (omega arith) g) m) c h)

  fraction-reads : Reads s (optional Abnf.frac) NoPoint (fraction_at s)
  unfolding fraction_at Abnf.frac Abnf.decimal-point
  fraction-reads k x t absent c h =
      if-not (Passes s t) (some_digits s (k + 1)) (λ e. c.point (sym (rest-front h) ∙ e)) (passes h)
  fraction-reads k x t (present (join {y = y} these d)) c h =
      if-is (Passes s t) (Some k) (rest-front h) (some-reads (k + 1) y t d c.digit (rest-next h))

  signed_reads : Reads s (optional (Abnf.minus ∣ Abnf.plus) · 1* Abnf.DIGIT) NoDigit (signed_at s)
  unfolding signed_at past_sign either Abnf.minus Abnf.plus
  signed_reads k x t (join {y = y} absent d) c h =
      let f = rest-front h in
      let g = some-front y t d in
      if-false (λ j. Passes s t (some_digits s j)) (k + 1)
      (neither (get_or s k 0) 43 45 (λ e. omega arith) (λ e. omega arith)) (some-reads k y t d c h)
  signed_reads k x t (join {y = y} (present (left these)) d) c h =
      if-true (λ j. Passes s t (some_digits s j)) k (rw (rest-front h) refl) (some-reads (k + 1) y t d c (rest-next h))
  signed_reads k x t (join {y = y} (present (right these)) d) c h =
      if-true (λ j. Passes s t (some_digits s j)) k (rw (rest-front h) refl) (some-reads (k + 1) y t d c (rest-next h))

  exponent-reads : Reads s (optional Abnf.exp) Stops (exponent_at s)
  unfolding exponent_at either Abnf.exp Abnf.e
  exponent-reads k x t absent c h =
      if-false (Passes s t) (signed_at s (k + 1)) (rw (rest-front h) (neither (front t) 101 69 c.small c.large))
      (passes h)
  exponent-reads k x t (present (join {y = y} (left these) q)) c h =
      if-true (Passes s t) (Some k) (rw (rest-front h) refl) (signed_reads (k + 1) y t q c.digit (rest-next h))
  exponent-reads k x t (present (join {y = y} (right these) q)) c h =
      if-true (Passes s t) (Some k) (rw (rest-front h) refl) (signed_reads (k + 1) y t q c.digit (rest-next h))

  parts-read : Reads s (Abnf.int · optional Abnf.frac · optional Abnf.exp) Stops
      (λ k. then (whole_at s k) (λ e. then (fraction_at s e) (exponent_at s)))
  parts-read = reads_then whole-reads (reads_then fraction-reads exponent-reads exp-front) frac-front

  pub number-reads : Reads s Abnf.number Stops (number_at s)
  unfolding number_at integer_at past_minus Abnf.number Abnf.minus
  number-reads k x t (join {y = y} absent r) c h =
      if-not (λ j. Passes s t (then (whole_at s j) (λ e. then (fraction_at s e) (exponent_at s)))) (k + 1)
      (λ e. int-front y t r (sym (rest-front h) ∙ e)) (parts-read k y t r c h)
  number-reads k x t (join {y = y} (present these) r) c h =
      if-is (λ j. Passes s t (then (whole_at s j) (λ e. then (fraction_at s e) (exponent_at s)))) k (rest-front h)
      (parts-read (k + 1) y t r c (rest-next h))
