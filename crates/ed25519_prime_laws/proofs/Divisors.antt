-- Every number above 1 has a prime divisor, and a number with none up to its root is prime.
use Prim.Native.Nat.{ℕ, zero, suc, ◌*◌, ◌/◌, ◌%◌, ◌≤◌, ◌<◌}
use mathlib.Core.Path.{◌≡◌, refl, sym, ap, ◌∙◌}
use mathlib.Core.Bool.{Bool, true, not, ◌&&◌}
use native.Mathlib.Omega.{arith}
use native.Mathlib.Decide.{dec_lt}
use native.Mathlib.Nat.{le_refl, mul-le-mul, mod_self}
use borrow.Author.Tests.{eq-eqb}
use lib.Dec.{T, eqb, eqb→eq}
use Rattle.laws.proofs.Holds.{holds-exactly}
use Rattle.digits.proofs.Table.{both_left, both_right}
use Rattle.ed25519_prime_laws.specs.Prime.{Prime}
use Rattle.ed25519_prime_laws.proofs.Euclid.{multiple, factor}
use Rattle.ed25519_prime_laws.proofs.Firsts.{First, first_of}

-- what divides a divisor divides
pub divides-too : (n r a b : ℕ) → n % r ≡ 0 → a * b ≡ r → n % a ≡ 0
divides-too n r a b e f =
    let g : r * (n / r) ≡ n = factor n r e in
    let s : a * (b * (n / r)) ≡ n = omega (arith, ap (λ (k : ℕ). k * (n / r)) f) in
    ap (λ (k : ℕ). k % a) (sym s) ∙ multiple a (b * (n / r))

module _ (n : ℕ) (above : 1 < n) where
  -- k + 1 divides n
  P : ℕ → Bool
  P k = eqb (n % suc k) 0

  holds : (k : ℕ) → n % suc k ≡ 0 → T (P k)
  unfolding P
  holds k e = (holds-exactly (eqb (n % suc k) 0)).0 (eq-eqb (n % suc k) 0 e)

  known : (k : ℕ) → T (P k) → n % suc k ≡ 0
  unfolding P
  known k t = eqb→eq (n % suc k) 0 t

  -- the least divisor above 1 is prime
  pub prime-divisor : (r : ℕ) × (Prime r × (n % r ≡ 0))
  prime-divisor = made n above refl
    where
      made : (m : ℕ) → 1 < m → m ≡ n → (r : ℕ) × (Prime r × (n % r ≡ 0))
      made zero h e = absurd (omega arith)
      made (suc m) h e =
          let self : n % suc m ≡ 0 = ap (λ (k : ℕ). n % k) e ∙ mod_self n in
          let f = first_of P m (omega arith) (holds m self) in
          let k : ℕ = f.0 in
          let first : First P k = f.1 in
          let d : n % suc k ≡ 0 = known k first.holds in
          (suc k, (record { above = omega (arith, first.positive); whole = whole k first d }, d))
        where
          whole : (k : ℕ) → First P k → n % suc k ≡ 0 → (a b : ℕ) → a * b ≡ suc k → 1 < a → 1 < b → ⊥
          whole k first d zero b e ha hb = omega arith
          whole k first d (suc a) b e ha hb =
              let l : suc a * 2 ≤ suc a * b = mul-le-mul (le_refl (suc a)) hb in
              first.earlier a (omega arith) (omega arith) (holds a (divides-too n (suc k) (suc a) b d e))

-- none of the numbers from 2 to k + 1 divides n
abbrev pub none_to : ℕ → ℕ → Bool
none_to n zero = true
none_to n (suc k) = not (eqb (n % suc (suc k)) 0) && none_to n k

none-to : (n k : ℕ) → T (none_to n k) → (i : ℕ) → i < k → n % suc (suc i) ≡ 0 → ⊥
none-to n zero t i h e = omega arith
none-to n (suc k) t i h e =
    let u = both_right (not (eqb (n % suc (suc k)) 0)) (none_to n k) t in
    let v = both_left (not (eqb (n % suc (suc k)) 0)) (none_to n k) t in
    elim (dec_lt i k) [
      | yes g ↦ none-to n k u i g e
      | no g ↦ here (last i (omega arith) e) v
    ]
  where
    last : (i : ℕ) → i ≡ k → n % suc (suc i) ≡ 0 → n % suc (suc k) ≡ 0
    last i z e = ap (λ (j : ℕ). n % suc (suc j)) (sym z) ∙ e

    here : n % suc (suc k) ≡ 0 → T (not (eqb (n % suc (suc k)) 0)) → ⊥
    here e v = absurd (rw (eq-eqb (n % suc (suc k)) 0 e) at v)

-- trial division up to the root
pub by-trial : (n k : ℕ) → 1 < n → T (none_to n k) → n < suc (suc k) * suc (suc k) → Prime n
by-trial n k above t far = record { above = above; whole = whole }
  where
    small : (a b : ℕ) → a * b ≡ n → 1 < a → a < suc (suc k) → ⊥
    small zero b e ha l = omega arith
    small (suc zero) b e ha l = omega arith
    small (suc (suc a)) b e ha l =
        none-to n k t a (omega arith) (ap (λ (m : ℕ). m % suc (suc a)) (sym e) ∙ multiple (suc (suc a)) b)

    whole : (a b : ℕ) → a * b ≡ n → 1 < a → 1 < b → ⊥
    whole a b e ha hb =
        let swapped : b * a ≡ n = omega arith in
        elim (dec_lt a (suc (suc k))) [
          | yes l ↦ small a b e ha l
          | no l ↦ elim (dec_lt b (suc (suc k))) [
            | yes g ↦ small b a swapped hb g
            | no g ↦ omega
                (arith, mul-le-mul {n₁ = suc (suc k)} {m₁ = suc (suc k)} {n₂ = a} {m₂ = b} (omega arith) (omega arith))
          ]
        ]
