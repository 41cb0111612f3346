-- Laws about `past_while`, over the test.
use Prim.Native.Nat.{ℕ, zero, suc, ◌+◌, ◌-◌, ◌≤◌, ◌<◌}
use mathlib.Core.Path.{◌≡◌, refl, sym, ◌∙◌, ap}
use mathlib.Core.Bool.{Bool, true, false}
use mathlib.Core.List.{List, [], ◌∷◌}
use native.Mathlib.Nat.{le_refl}
use native.Mathlib.Numerals.{add-one}
use native.Mathlib.Omega.{arith}
use lib.ListN.{length, get_or, drop, drop_of_length-le, length-drop}
use lib.Seq.{drop-cons}
use lib.Dec.{leb}
use borrow.Author.Tests.{leb-true, leb-false}
use Rattle.laws.specs.Pick.{pick}
use Rattle.json_tokens.specs.Scan.{run, past_while, StopsAt}

-- what a test may answer by one word for it, it may by a wider one
pub stops-as : {P Q : ℕ → Bool → Type 0} {s : List ℕ} {at r : ℕ} → ((x : ℕ) (b : Bool) → P x b → Q x b) → StopsAt P s at r
    → StopsAt Q s at r
stops-as f h = record {
  on = h.on;
  within = h.within;
  passed = λ k i j. f _ _ (h.passed k i j);
  stopped = λ i. f _ _ (h.stopped i);
}

module _ (p : ℕ → Bool) (s : List ℕ) where
  run_on_lem : (k : ℕ) → k < length s → p (get_or s k 0) ≡ true → run p (drop k s) ≡ suc (run p (drop (suc k) s))
  unfolding pick
  run_on_lem k h e = rw (drop-cons s k 0 h) (rw e refl)

  pub while-more : (k : ℕ) → k < length s → p (get_or s k 0) ≡ true → past_while p s (k + 1) ≡ past_while p s k
  unfolding past_while
  while-more k h e = rw (add-one k) (omega (arith, run_on_lem k h e))

  pub while-stop : (k : ℕ) → k < length s → p (get_or s k 0) ≡ false → k ≡ past_while p s k
  unfolding past_while pick
  while-stop k h e = rw (drop-cons s k 0 h) (rw e (omega arith))

  pub while-end : (k : ℕ) → length s ≤ k → k ≡ past_while p s k
  unfolding past_while
  while-end k h = rw (drop_of_length-le s h) (omega arith)

  pub while-ahead : (k : ℕ) → k ≤ past_while p s k
  unfolding past_while
  while-ahead k = omega arith

  pub run-within : (l : List ℕ) → run p l ≤ length l
  unfolding pick
  run-within [] = le_refl 0
  run-within (x ∷ l) = by (p x) (run-within l)
    where
      by : (b : Bool) → run p l ≤ length l → pick b (suc (run p l)) 0 ≤ suc (length l)
      by true h = omega arith
      by false h = omega arith

  pub while-within : (k : ℕ) → k ≤ length s → past_while p s k ≤ length s
  unfolding past_while
  while-within k h = omega (arith, run-within (drop k s), length-drop k s)

  -- what a byte that passes does not change, the run does not
  pub while-same : {A : Type 0} (f : ℕ → A) → ((k : ℕ) → p (get_or s k 0) ≡ true → f (k + 1) ≡ f k) → (k : ℕ)
      → f (past_while p s k) ≡ f k
  while-same f one k = from (length s - k) k (omega arith)
    where
      at : (k : ℕ) (b : Bool) → p (get_or s k 0) ≡ b → k < length s → f (past_while p s (k + 1)) ≡ f (k + 1)
          → f (past_while p s k) ≡ f k
      at k true e h g = ap f (sym (while-more k h e)) ∙ g ∙ one k e
      at k false e h g = ap f (sym (while-stop k h e))

      by : (n k : ℕ) (b : Bool) → leb (length s) k ≡ b → (k < length s → f (past_while p s (k + 1)) ≡ f (k + 1))
          → f (past_while p s k) ≡ f k
      by n k true e g = ap f (sym (while-end k (leb-true _ _ e)))
      by n k false e g = let h = leb-false (length s) k e in at k (p (get_or s k 0)) refl h (g h)

      from : (n k : ℕ) → length s - k ≤ n → f (past_while p s k) ≡ f k
      from zero k h = ap f (sym (while-end k (omega arith)))
      from (suc n) k h = by n k (leb (length s) k) refl (λ i. from n (k + 1) (omega arith))

  -- the place where a test stops that says what p does
  pub past-is : (at r : ℕ) → StopsAt (λ x b. b ≡ p x) s at r → r ≡ past_while p s at
  past-is at r h = from (r - at) at h.on h.within h.passed (omega (arith, h.on))
    where
      end : (b : Bool) → leb (length s) r ≡ b → r ≡ past_while p s r
      end true e = while-end r (leb-true _ _ e)
      end false e = let i = leb-false (length s) r e in while-stop r i (sym (h.stopped i))

      from : (n k : ℕ) → k ≤ r → (k < r → r ≤ length s) → ((i : ℕ) → k ≤ i → i < r → true ≡ p (get_or s i 0)) → n ≡ r - k
          → r ≡ past_while p s k
      from zero k on w g e = let q : k ≡ r = omega arith in rw q (end (leb (length s) r) refl)
      from (suc n) k on w g e =
          from n (k + 1) (omega arith) (λ i. w (omega arith)) (λ i a b. g i (omega arith) b) (omega arith)
          ∙ while-more k (omega (arith, w (omega arith))) (sym (g k (le_refl k) (omega arith)))
