-- No reader of tokens goes back, and a turn goes forth that ends in a comma.
use Rattle.std.specs.Prelude.{None, Option, Some}
use Prim.Native.Nat.{ℕ, ◌+◌, ◌≤◌}
use mathlib.Core.Path.{◌≡◌, refl}
use mathlib.Core.Bool.{Bool, true, false}
use mathlib.Core.List.{List}
use native.Mathlib.Nat.{le_refl}
use native.Mathlib.Omega.{arith}
use lib.ListN.{length}
use borrow.Author.Tests.{eqb-true}
use Rattle.laws.specs.Pick.{pick}
use Rattle.json_tokens.specs.declared.Step.{Step}
use Rattle.json_tokens.specs.Scan.{then, then_step, blank, digit, past_while, after, past_colon}
use Rattle.json_tokens.specs.Number.{some_digits, past_minus, past_sign, whole_at, integer_at, fraction_at, signed_at}
use Rattle.json_tokens.specs.Number.{exponent_at, number_at}
use Rattle.json_tokens.proofs.Picks.{inside}
use Rattle.json_tokens.proofs.While.{while-ahead}
use Rattle.json_tokens.proofs.Turns.{Ahead, Forth, back}

-- what holds of both holds of the choice
pub of-pick : {A : Type 0} (P : A → Type 0) (b : Bool) {x y : A} → P x → P y → P (pick b x y)
unfolding pick
of-pick P true p q = p
of-pick P false p q = q

-- the same, where the first need hold only if the test does
pub of-pick-if : {A : Type 0} (P : A → Type 0) (b : Bool) {x y : A} → (b ≡ true → P x) → P y → P (pick b x y)
unfolding pick
of-pick-if P true p q = p refl
of-pick-if P false p q = q

ahead-then : (k : ℕ) (r : Option ℕ) (f : ℕ → Option ℕ) → Ahead k r → ((e : ℕ) → k ≤ e → Ahead k (f e)) → Ahead k (then r f)
unfolding then
ahead-then k (Some e) f h g = g e h
ahead-then k None f h g = tt

module _ (s : List ℕ) where
  ahead-digits : (k : ℕ) → Ahead k (some_digits s k)
  unfolding some_digits
  ahead-digits k = of-pick (Ahead k) _ tt (while-ahead digit s k)

  digits_from : (j k : ℕ) → k ≤ j → Ahead k (some_digits s j)
  digits_from j k h = back (some_digits s j) j k h (ahead-digits j)

  ahead-whole : (j k : ℕ) → k ≤ j → Ahead k (whole_at s j)
  unfolding whole_at
  ahead-whole j k h = of-pick (Ahead k) _ (omega arith) (digits_from j k h)

  ahead-integer : (k : ℕ) → Ahead k (integer_at s k)
  unfolding integer_at past_minus
  ahead-integer k =
      of-pick (λ j. Ahead k (whole_at s j)) _ (ahead-whole (k + 1) k (omega arith)) (ahead-whole k k (le_refl k))

  ahead-fraction : (j k : ℕ) → k ≤ j → Ahead k (fraction_at s j)
  unfolding fraction_at
  ahead-fraction j k h = of-pick (Ahead k) _ (digits_from (j + 1) k (omega arith)) h

  ahead-signed : (j k : ℕ) → k ≤ j → Ahead k (signed_at s j)
  unfolding signed_at past_sign
  ahead-signed j k h =
      of-pick (λ i. Ahead k (some_digits s i)) _ (digits_from (j + 1) k (omega arith)) (digits_from j k h)

  ahead-exponent : (j k : ℕ) → k ≤ j → Ahead k (exponent_at s j)
  unfolding exponent_at
  ahead-exponent j k h = of-pick (Ahead k) _ (ahead-signed (j + 1) k (omega arith)) h

  pub ahead-number : (k : ℕ) → Ahead k (number_at s k)
  unfolding number_at
  ahead-number k =
      ahead-then k _ _ (ahead-integer k) (λ e h. ahead-then k _ _ (ahead-fraction e k h) (λ f g. ahead-exponent f k g))

  pub ahead-colon : (j k : ℕ) → k ≤ j → Ahead k (past_colon s j)
  unfolding past_colon
  ahead-colon j k h =
      of-pick (Ahead k) _ (omega (arith, while-ahead blank s j, while-ahead blank s (past_while blank s j + 1))) tt

  -- ---- Turns.
  pub forth-then : (k : ℕ) (r : Option ℕ) (f : ℕ → Step) → Ahead k r → ((e : ℕ) → k ≤ e → Forth (length s) k (f e))
      → Forth (length s) k (then_step r f)
  unfolding then_step
  forth-then k (Some e) f h g = g e h
  forth-then k None f h g = tt

  pub forth-after : (close j k : ℕ) → k ≤ j → Forth (length s) k (after s close j)
  unfolding after
  forth-after close j k h =
      of-pick (Forth (length s) k) _ (omega (arith, while-ahead blank s j))
      (of-pick-if (Forth (length s) k) _
      (λ t. (
        omega (arith, while-ahead blank s j, while-ahead blank s (past_while blank s j + 1)),
        omega (arith, while-ahead blank s j, inside s refl (eqb-true _ _ t) tt),
      ))
      tt)
