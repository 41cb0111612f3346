-- What follows for the field: no product of two elements other than 0 is 0, and a square root of 1 is 1 or -1.
use Prim.Native.Nat.{ℕ, zero, suc, ◌+◌, ◌-◌, ◌*◌, ◌%◌, ◌^◌}
use mathlib.Core.Path.{◌≡◌, refl, sym, ap, ◌∙◌}
use mathlib.Core.Logic.{◌⊎◌, inl, inr}
use native.Mathlib.Omega.{arith}
use native.Mathlib.Decide.{ℕ_discrete}
use native.Mathlib.Nat.{zero-mod, pow-zero, pow-suc, mod-eq_of_lt}
use Rattle.digits.proofs.Mods.{cancel, more}
use Rattle.ed25519_field.specs.Field.{p}
use Rattle.ed25519_field.proofs.Modulus.{p-pos, p-large}
use Rattle.ed25519_prime_laws.specs.Prime.{Prime}
use Rattle.ed25519_prime_laws.proofs.Euclid.{euclid}
use Rattle.ed25519_prime_laws.proofs.Fermat.{fermat}
use Rattle.ed25519_prime_laws.proofs.Certificate.{p-prime}

pub no-zero-divisors : (a b : ℕ) → (a * b) % p ≡ 0 → (a % p ≡ 0) ⊎ (b % p ≡ 0)
no-zero-divisors a b e =
    elim (ℕ_discrete (b % p) 0) [
      | yes z ↦ inr z
      | no z ↦ inl (euclid p b p-prime z a e)
    ]

-- a product of two that are not 0
pub times-other : (a b : ℕ) → (a % p ≡ 0 → ⊥) → (b % p ≡ 0 → ⊥) → (a * b) % p ≡ 0 → ⊥
times-other a b ha hb e = ha (euclid p b p-prime hb a e)

pub power-other : (a n : ℕ) → (a % p ≡ 0 → ⊥) → (a ^ n) % p ≡ 0 → ⊥
power-other a zero h e =
    let one : 1 % p ≡ 1 = mod-eq_of_lt (omega (arith, p-large)) in
    let f : (a ^ 0) % p ≡ 1 % p = ap (λ (k : ℕ). k % p) (pow-zero a) in
    omega (arith, one, e, f)
power-other a (suc n) h e =
    times-other (a ^ n) a (power-other a n h) h (sym (ap (λ (k : ℕ). k % p) (pow-suc a n)) ∙ e)

-- p for the theorem of Fermat
pub one_power : (a : ℕ) → (a % p ≡ 0 → ⊥) → (a ^ (p - 1)) % p ≡ 1 % p
one_power a h = made p refl p-prime h
  where
    made : (n : ℕ) → n ≡ p → Prime n → (a % p ≡ 0 → ⊥) → (a ^ (p - 1)) % p ≡ 1 % p
    made zero s prime h = absurd (omega (arith, p-pos))
    made (suc m) s prime h =
        let e : p - 1 ≡ m = omega arith in
        rw (e, ← s) (fermat m prime a (λ (z : a % suc m ≡ 0). h (rw (← s) z)))

-- (t + 1) (t - 1) = t^2 - 1
pub root-of-one : (t : ℕ) → (t * t) % p ≡ 1 % p → (t % p ≡ 1 % p) ⊎ ((t + 1) % p ≡ 0)
root-of-one t e =
    let k : ℕ = p - 1 in
    let k-is : k + 1 ≡ p = omega (arith, p-pos) in
    let s : (t + 1) * (t + k) + 1 ≡ t * t + p * (t + 1) = expanded t k p k-is (ap (λ (j : ℕ). j * t) k-is) in
    let zero-plus : 1 ≡ 0 + 1 = omega arith in
    let z : ((t + 1) * (t + k)) % p ≡ 0 =
    (cancel p p-pos ((t + 1) * (t + k)) 0 1
    (more p ((t + 1) * (t + k) + 1) (t * t) (t + 1) s ∙ e ∙ ap (λ (j : ℕ). j % p) zero-plus)
    ∙ zero-mod p) in
    pick (no-zero-divisors (t + 1) (t + k) z)
  where
    expanded : (t k m : ℕ) → k + 1 ≡ m → (k + 1) * t ≡ m * t → (t + 1) * (t + k) + 1 ≡ t * t + m * (t + 1)
    expanded t k m e f = omega arith

    pick : ((t + 1) % p ≡ 0) ⊎ ((t + (p - 1)) % p ≡ 0) → (t % p ≡ 1 % p) ⊎ ((t + 1) % p ≡ 0)
    pick (inl z) = inr z
    pick (inr z) =
        let s : 1 + (p - 1) ≡ 0 + p * 1 = omega (arith, p-pos) in
        inl (cancel p p-pos t 1 (p - 1) (z ∙ sym (more p (1 + (p - 1)) 0 1 s ∙ zero-mod p)))
