-- Laws of how many places pass a test.
use mathlib.Core.Path.{◌≡◌, refl, sym}
use mathlib.Core.Bool.{Bool, true, false, cond, ◌&&◌, true≢false}
use Prim.Native.Nat.{ℕ, zero, suc, ◌+◌, ◌≤◌, ◌<◌}
use native.Mathlib.Omega.{arith}
use Rattle.clock_agreement.specs.Many.{many}

-- where more places pass the test q than the test p, one passes q and not p
pub record Differs (p q : ℕ → Bool) (n : ℕ) : Type 0 where
  pub place : ℕ
  pub below : place < n
  pub yes : q place ≡ true
  pub not : p place ≡ false

wider : {p q : ℕ → Bool} {n : ℕ} → Differs p q n → Differs p q (suc n)
wider d = record { place = d.place; below = omega (arith, d.below); yes = d.yes; not = d.not }

pub differs : (p q : ℕ → Bool) (n : ℕ) → many p n < many q n → Differs p q n
unfolding many
differs p q zero h = absurd (omega arith)
differs p q (suc n) h = by (p n) (q n) refl refl h (differs p q n)
  where
    by : (a b : Bool) → p n ≡ a → q n ≡ b → many p n + cond a 1 0 < many q n + cond b 1 0
        → (many p n < many q n → Differs p q n) → Differs p q (suc n)
    by true true e f l before = wider (before (omega arith))
    by true false e f l before = wider (before (omega arith))
    by false true e f l before = record { place = n; below = omega arith; yes = f; not = e }
    by false false e f l before = wider (before (omega arith))

-- a test that never holds
pub many-never : (n : ℕ) → many (λ k. false) n ≡ 0
unfolding many
many-never zero = refl
many-never (suc n) = let e = many-never n in omega arith

-- where each place that passes h passes l or g, no more pass h than l or g
pub cover : (h l g : ℕ → Bool) (n : ℕ) → ((s : ℕ) → s < n → h s ≡ true → l s ≡ false → g s ≡ true)
    → many h n ≤ many (λ s. h s && l s) n + many g n
unfolding many
cover h l g zero f = omega arith
cover h l g (suc n) f =
    by (h n) (l n) (g n) (f n (omega arith)) (cover h l g n (λ s b. f s (omega arith)))
  where
    by : (a b c : Bool) → (a ≡ true → b ≡ false → c ≡ true) → many h n ≤ many (λ s. h s && l s) n + many g n
        → many h n + cond a 1 0 ≤ many (λ s. h s && l s) n + cond (a && b) 1 0 + (many g n + cond c 1 0)
    by true true c i j = omega arith
    by true false true i j = omega arith
    by true false false i j = absurd (true≢false (sym (i refl refl)))
    by false b c i j = omega arith
