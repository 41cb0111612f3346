-- The binomial theorem, and that a prime divides the coefficients between the first and the last.
use Prim.Native.Nat.{ℕ, zero, suc, ◌+◌, ◌*◌, ◌%◌, ◌^◌, ◌<◌}
use mathlib.Core.Path.{◌≡◌, refl, ap, ◌∙◌}
use native.Mathlib.Omega.{arith}
use native.Mathlib.Nat.{pow-zero, pow-suc, mod-eq_of_lt}
use Rattle.ed25519_prime_laws.specs.Prime.{Prime}
use Rattle.ed25519_prime_laws.proofs.Euclid.{euclid, multiple}

-- how many ways there are to choose k of n
unfoldable pub choose : ℕ → ℕ → ℕ
choose n zero = 1
choose zero (suc k) = 0
choose (suc n) (suc k) = choose n k + choose n (suc k)

choose-over : (n k : ℕ) → n < k → choose n k ≡ 0
unfolding choose
choose-over n zero h = absurd (omega arith)
choose-over zero (suc k) h = refl
choose-over (suc n) (suc k) h =
    let a = choose-over n k (omega arith) in
    let b = choose-over n (suc k) (omega arith) in
    omega arith

pub choose-all : (n : ℕ) → choose n n ≡ 1
unfolding choose
choose-all zero = refl
choose-all (suc n) =
    let a = choose-all n in
    let b = choose-over n (suc n) (omega arith) in
    omega arith

-- (k + 1) C(n + 1, k + 1) = (n + 1) C(n, k)
absorb : (n k : ℕ) → suc k * choose (suc n) (suc k) ≡ suc n * choose n k
unfolding choose
absorb zero zero = refl
absorb zero (suc k) = omega arith
absorb (suc n) zero = let e = absorb n zero in omega arith
absorb (suc n) (suc j) =
    let e = absorb n (suc j) in
    let f = absorb n j in
    let g : suc n * (choose n j + choose n (suc j)) ≡ suc n * choose n j + suc n * choose n (suc j) = omega arith in
    omega arith

pub prime-divides : (m j : ℕ) → Prime (suc m) → j < m → choose (suc m) (suc j) % suc m ≡ 0
prime-divides m j prime h =
    let c : ℕ = choose (suc m) (suc j) in
    let small : suc j % suc m ≡ suc j = mod-eq_of_lt (omega arith) in
    let e : c * suc j ≡ suc m * choose m j = omega (arith, absorb m j) in
    euclid (suc m) (suc j) prime (λ (z : suc j % suc m ≡ 0). omega arith) c
    (ap (λ (n : ℕ). n % suc m) e ∙ multiple (suc m) (choose m j))

module _ (x : ℕ) where
  -- the first k terms of (x + 1)^n
  unfoldable pub terms : ℕ → ℕ → ℕ
  terms n zero = 0
  terms n (suc k) = terms n k + choose n k * x ^ k

  next : (n k : ℕ) → terms (suc n) (suc k) ≡ x * terms n k + terms n (suc k)
  unfolding terms choose
  next n zero = rw pow-zero (omega arith)
  next n (suc k) =
      let e = next n k in
      let c : ℕ = choose n k in
      let c2 : ℕ = choose n (suc k) in
      let a : (c + c2) * (x ^ k * x) ≡ x * (c * x ^ k) + c2 * (x ^ k * x) = omega arith in
      rw pow-suc (omega arith)

  pub binomial : (n : ℕ) → (x + 1) ^ n ≡ terms n (suc n)
  unfolding terms choose
  binomial zero = rw (pow-zero, pow-zero) (omega arith)
  binomial (suc n) =
      let e = binomial n in
      let f = next n (suc n) in
      let o = choose-over n (suc n) (omega arith) in
      let z : choose n (suc n) * x ^ suc n ≡ 0 * x ^ suc n = ap (λ (k : ℕ). k * x ^ suc n) o in
      let g : (x + 1) ^ n * (x + 1) ≡ terms n (suc n) * (x + 1) = ap (λ (k : ℕ). k * (x + 1)) e in
      pow-suc (x + 1) n ∙ g ∙ omega arith
