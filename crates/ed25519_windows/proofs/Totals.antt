-- The numbers that lists of digits are: what is put into a list, and what digits add and take off.
use Prim.Native.Nat.{ℕ, zero, suc, ◌+◌, ◌*◌, ◌^◌, ◌≤◌, ◌<◌}
use mathlib.Core.Path.{◌≡◌, refl, ap, ◌∙◌}
use mathlib.Core.List.{List, [], ◌∷◌}
use native.Mathlib.Omega.{arith}
use native.Mathlib.Numerals.{add-one}
use native.Mathlib.Nat.{pow-zero, pow-suc, le_of_suc-le-suc, not-suc-le-zero}
use borrow.Author.Tests.{le-leb, lt-leb}
use lib.ListN.{length, set, get_or, drop}
use lib.Seq.{drop-cons, get_or-drop}
use Rattle.ed25519_windows.specs.OddDigits.{plus_of, less_of, total, Above}

module _ (f : ℕ → ℕ) where
  -- a digit is replaced
  total-set : (l : List ℕ) (k v : ℕ) → k < length l
      → total f (set l k v) + 2 ^ k * f (get_or l k 0) ≡ total f l + 2 ^ k * f v
  unfolding total
  total-set [] k v h = absurd (not-suc-le-zero h)
  total-set (x ∷ xs) zero v h = rw pow-zero (omega arith)
  total-set (x ∷ xs) (suc k) v h =
      let e = total-set xs k v (le_of_suc-le-suc h) in
      let g : 2 * (total f (set xs k v) + 2 ^ k * f (get_or xs k 0)) ≡ 2 * (total f xs + 2 ^ k * f v) =
      ap (λ n. 2 * n) e in
      rw pow-suc (omega arith)

  -- the digits from i on are digit i and those above it
  pub total-drop : (t : List ℕ) (i : ℕ) → i < length t
      → total f (drop i t) ≡ f (get_or t i 0) + 2 * total f (drop (i + 1) t)
  unfolding total
  total-drop t i h = ap (total f) (drop-cons t i 0 h) ∙ (rw add-one)

  module _ (nothing : f 0 ≡ 0) where
    -- where there was none
    pub total-put : (l : List ℕ) (k v : ℕ) → k < length l → get_or l k 0 ≡ 0
        → total f (set l k v) ≡ total f l + 2 ^ k * f v
    total-put l k v h z =
        let n : 2 ^ k * f (get_or l k 0) ≡ 2 ^ k * 0 = ap (λ m. 2 ^ k * m) (ap f z ∙ nothing) in
        omega (arith, total-set l k v h)

    pub total-none : (t : List ℕ) → ((j : ℕ) → get_or t j 0 ≡ 0) → total f t ≡ 0
    unfolding total
    total-none [] h = refl
    total-none (x ∷ xs) h =
        let e : f x ≡ 0 = ap f (h 0) ∙ nothing in
        let r = total-none xs (λ j. h (suc j)) in
        omega arith

    pub total-above : (t : List ℕ) (i : ℕ) → Above t i → total f (drop i t) ≡ 0
    total-above t i a = total-none (drop i t) (λ j. get_or-drop i t j 0 ∙ a.none (i + j) (omega arith))

-- what a digit adds and takes off
pub plus_none : plus_of 0 ≡ 0
unfolding plus_of
plus_none = refl

pub less_none : less_of 0 ≡ 0
unfolding less_of
less_none = refl

pub plus-low : (b : ℕ) → b < 16 → plus_of b ≡ b
unfolding plus_of
plus-low b h = rw (lt-leb 16 b h) (omega arith)

pub less-low : (b : ℕ) → b < 16 → less_of b ≡ 0
unfolding less_of
less-low b h = rw (lt-leb 16 b h)

pub plus-high : (b : ℕ) → 16 ≤ b → plus_of b ≡ 0
unfolding plus_of
plus-high b h = rw (le-leb 16 b h)

pub less-high : (b n : ℕ) → b ≡ 16 + n → n < 16 → less_of b ≡ n
unfolding less_of
less-high b n e h = rw (le-leb 16 b (omega arith)) (omega arith)
