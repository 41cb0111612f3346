-- A prime that divides a product divides one of its factors.
use Prim.Native.Nat.{ℕ, zero, suc, ◌+◌, ◌*◌, ◌/◌, ◌%◌, ◌<◌}
use mathlib.Core.Path.{◌≡◌, refl, sym, ap, ◌∙◌}
use mathlib.Core.Bool.{Bool}
use native.Mathlib.Omega.{arith}
use native.Mathlib.Decide.{dec_lt}
use native.Mathlib.Nat.{div-add-mod, zero-mod, add-mul-mod_self_left}
use borrow.Author.Tests.{eq-eqb}
use lib.Dec.{T, eqb, eqb→eq}
use Rattle.laws.proofs.Holds.{holds-exactly}
use Rattle.digits.proofs.Mods.{add_cong, mul-cong}
use Rattle.ed25519_prime_laws.specs.Prime.{Prime}
use Rattle.ed25519_prime_laws.proofs.Firsts.{First, first_of, divides}

-- a multiple has no rest
pub multiple : (r b : ℕ) → (r * b) % r ≡ 0
multiple r b =
    let e : r * b ≡ 0 + r * b = omega arith in
    ap (λ (n : ℕ). n % r) e ∙ add-mul-mod_self_left 0 r b ∙ zero-mod r

-- what divides n without a rest is a factor of it
pub factor : (n k : ℕ) → n % k ≡ 0 → k * (n / k) ≡ n
factor n k e = omega (arith, div-add-mod n k)

-- a factor of a prime is 1 or the prime itself
pub factor-of : (r k : ℕ) → Prime r → 0 < k → r % k ≡ 0 → (k ≡ 1 → ⊥) → k ≡ r
factor-of r k prime pos e h =
    let f : k * (r / k) ≡ r = factor r k e in
    elim (dec_lt 1 (r / k)) [
      | yes g ↦ absurd (prime.whole k (r / k) f (omega arith) g)
      | no g ↦ small (r / k) refl g f
    ]
  where
    small : (q : ℕ) → q ≡ r / k → (1 < q → ⊥) → k * q ≡ r → k ≡ r
    small zero z g f = absurd (omega (arith, prime.above))
    small (suc zero) z g f = omega arith
    small (suc (suc q)) z g f = absurd (g (omega arith))

module _ (r b : ℕ) (prime : Prime r) (other : b % r ≡ 0 → ⊥) where
  -- r divides k b
  P : ℕ → Bool
  P k = eqb ((k * b) % r) 0

  holds : (k : ℕ) → (k * b) % r ≡ 0 → T (P k)
  unfolding P
  holds k e = (holds-exactly (eqb ((k * b) % r) 0)).0 (eq-eqb ((k * b) % r) 0 e)

  known : (k : ℕ) → T (P k) → (k * b) % r ≡ 0
  unfolding P
  known k t = eqb→eq ((k * b) % r) 0 t

  closed : (k : ℕ) → T (P k) → (q s : ℕ) → T (P (k * q + s)) → T (P s)
  closed k t q s u =
      let e : (k * q + s) * b ≡ s * b + k * b * q = omega arith in
      let z : s * b + 0 * q ≡ s * b = omega arith in
      let g : (k * b * q) % r ≡ (0 * q) % r = mul-cong r (k * b) q 0 q (known k t ∙ sym (zero-mod r)) refl in
      holds s
      (sym (ap (λ (n : ℕ). n % r) e ∙ add_cong r (s * b) (k * b * q) (s * b) (0 * q) refl g ∙ ap (λ (n : ℕ). n % r) z)
      ∙ known (k * q + s) u)

  pub euclid : (a : ℕ) → (a * b) % r ≡ 0 → a % r ≡ 0
  euclid a e =
      let f = first_of P r (omega (arith, prime.above)) (holds r (multiple r b)) in
      let k : ℕ = f.0 in
      let first : First P k = f.1 in
      let d = divides P k first (closed k first.holds) in
      let one : k ≡ 1 → ⊥ = λ (z : k ≡ 1). other (ones k z (known k first.holds)) in
      let same : k ≡ r = factor-of r k prime first.positive (d r (holds r (multiple r b))) one in
      ap (λ (n : ℕ). a % n) (sym same) ∙ d a (holds a e)
    where
      ones : (k : ℕ) → k ≡ 1 → (k * b) % r ≡ 0 → b % r ≡ 0
      ones k z e = let s : k * b ≡ b = ap (λ (n : ℕ). n * b) z ∙ omega arith in sym (ap (λ (n : ℕ). n % r) s) ∙ e
