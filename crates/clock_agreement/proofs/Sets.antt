-- A server is in a set exactly where its bit is 1.
use mathlib.Core.Path.{◌≡◌, sym, ap, ◌∙◌, subst}
use mathlib.Core.Bool.{Bool, true, false, cond}
use mathlib.Core.Logic.{⊎_elim}
use Prim.Native.Nat.{ℕ, zero, suc, ◌+◌, ◌*◌, ◌-◌, ◌/◌, ◌%◌, ◌^◌, ◌<◌}
use native.Mathlib.Nat.{add-mul-div_left, add-zero, div-eq_of_lt, pow-suc, eq-or-lt_of_le, le_of_suc-le-suc}
use native.Mathlib.Omega.{arith}
use lib.Pow.{pow_pos, pow-add}
use Rattle.clock_agreement.specs.Many.{set_of}

-- the set of the first n is below 2^n
set_below : (p : ℕ → Bool) (n : ℕ) → set_of p n < 2 ^ n
unfolding set_of
set_below p zero = omega arith
set_below p (suc n) = by (p n) (set_below p n)
  where
    by : (b : Bool) → set_of p n < 2 ^ n → set_of p n + cond b (2 ^ n) 0 < 2 ^ suc n
    by true h = rw pow-suc (omega arith)
    by false h = rw pow-suc (omega arith)

-- one more, at its own place
own : (x n : ℕ) (b : Bool) → x < 2 ^ n → (x + cond b (2 ^ n) 0) / 2 ^ n % 2 ≡ cond b 1 0
own x n true h =
    let e : x + 2 ^ n ≡ x + 2 ^ n * 1 = omega arith in
    let q : (x + 2 ^ n * 1) / 2 ^ n ≡ x / 2 ^ n + 1 = add-mul-div_left x 1 (pow_pos n) in
    let z : x / 2 ^ n ≡ 0 = div-eq_of_lt h in
    ap (λ (y : ℕ). y / 2 ^ n % 2) e ∙ ap (λ (y : ℕ). y % 2) q ∙ ap (λ (y : ℕ). (y + 1) % 2) z
own x n false h =
    ap (λ (y : ℕ). y / 2 ^ n % 2) (add-zero x) ∙ ap (λ (y : ℕ). y % 2) (div-eq_of_lt h)

-- and at a place below
past : (x j i : ℕ) → (x + 2 ^ (j + (1 + i))) / 2 ^ j % 2 ≡ x / 2 ^ j % 2
past x j i =
    let e : 2 ^ (j + (1 + i)) ≡ 2 ^ j * (2 * 2 ^ i) =
    pow-add 2 j (1 + i) ∙ ap (λ (y : ℕ). 2 ^ j * y) (pow-add 2 1 i) in
    let q : (x + 2 ^ j * (2 * 2 ^ i)) / 2 ^ j ≡ x / 2 ^ j + 2 * 2 ^ i = add-mul-div_left x (2 * 2 ^ i) (pow_pos j) in
    ap (λ (y : ℕ). (x + y) / 2 ^ j % 2) e ∙ ap (λ (y : ℕ). y % 2) q ∙ omega arith

pub set-bit : (p : ℕ → Bool) (n j : ℕ) → j < n → set_of p n / 2 ^ j % 2 ≡ cond (p j) 1 0
unfolding set_of
set-bit p zero j h = absurd (omega arith)
set-bit p (suc n) j h =
    ⊎_elim
    (λ e.
    subst (λ (i : ℕ). (set_of p n + cond (p n) (2 ^ n) 0) / 2 ^ i % 2 ≡ cond (p i) 1 0) (sym e)
    (own (set_of p n) n (p n) (set_below p n)))
    (λ l. by (p n) l (set-bit p n j l))
    (eq-or-lt_of_le (le_of_suc-le-suc h))
  where
    by : (b : Bool) → j < n → set_of p n / 2 ^ j % 2 ≡ cond (p j) 1 0
        → (set_of p n + cond b (2 ^ n) 0) / 2 ^ j % 2 ≡ cond (p j) 1 0
    by true l g =
        let e : n ≡ j + (1 + (n - suc j)) = omega arith in
        ap (λ (m : ℕ). (set_of p n + 2 ^ m) / 2 ^ j % 2) e ∙ past (set_of p n) j (n - suc j) ∙ g
    by false l g = ap (λ (y : ℕ). y / 2 ^ j % 2) (add-zero (set_of p n)) ∙ g
