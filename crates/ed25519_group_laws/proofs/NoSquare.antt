-- d is no square modulo p (Euler's criterion): a square to the power (p - 1) / 2 is 1, by Fermat's theorem, and d to
-- that power is -1, as is computed.
use Prim.Native.Nat.{ℕ, ◌-◌, ◌*◌, ◌/◌, ◌%◌, ◌^◌, ◌<◌}
use mathlib.Core.Path.{◌≡◌, refl, sym, ap, ◌∙◌}
use native.Mathlib.Omega.{arith}
use native.Mathlib.Nat.{mod-eq_of_lt, pow-suc}
use borrow.Author.Tests.{eqb-false}
use lib.Dec.{lit<}
use Rattle.digits.proofs.Mods.{pow-mod, pow-pow}
use Rattle.digits.proofs.Powers.{by_bits, power-is}
use Rattle.ed25519_field.specs.Field.{p}
use Rattle.ed25519_field.proofs.Modulus.{p-large}
use Rattle.ed25519_curve.specs.Points.{d}
use Rattle.ed25519_prime_laws.proofs.Small.{pow-one}
use Rattle.ed25519_prime_laws.proofs.Squares.{one_power, times-other}
use Rattle.ed25519_group_laws.specs.Affine.{div_f}
use Rattle.ed25519_group_laws.proofs.Modulo.{Same, known, equal, back, ◌⊕◌, ◌⊙◌, ◌⊗◌, by, is_zero, gone}
use Rattle.ed25519_group_laws.proofs.Division.{over, divide}

unfoldable half : ℕ
half = (p - 1) / 2

twice_half : 2 * half ≡ p - 1
unfolding half p
twice_half = refl

half-low : half < 2 ^ 254
unfolding half p
half-low = lit< tt

computed : by_bits p 254 d half 1 % p ≡ p - 1
unfolding p d half by_bits
computed = refl

d-power : (d ^ half) % p ≡ p - 1
d-power = sym (power-is p 254 d half half-low) ∙ computed

d-other : d % p ≡ 0 → ⊥
unfolding p d
d-other e = eqb-false (d % p) 0 refl e

-- a^2 to the power (p - 1) / 2 is a^(p-1)
square-power : (a : ℕ) → (a % p ≡ 0 → ⊥) → ((a * a) ^ half) % p ≡ 1 % p
square-power a other =
    let s : a * a ≡ a ^ 2 = sym (pow-suc a 1 ∙ ap (λ (n : ℕ). n * a) (pow-one a)) in
    ap (λ (n : ℕ). n % p)
    (ap (λ (n : ℕ). n ^ half) s ∙ pow-pow a 2 half ∙ ap (λ (n : ℕ). a ^ n) twice_half)
    ∙ one_power a other

not-d : (a : ℕ) → Same (a * a) d → ⊥
not-d a e =
    let one : 1 % p ≡ 1 = mod-eq_of_lt (omega (arith, p-large)) in
    let same : ((a * a) ^ half) % p ≡ (d ^ half) % p =
    pow-mod p (a * a) half ∙ ap (λ (n : ℕ). (n ^ half) % p) (equal e) ∙ sym (pow-mod p d half) in
    omega (arith, p-large, sym (square-power a other) ∙ same ∙ d-power)
  where
    other : a % p ≡ 0 → ⊥
    other z = d-other (gone (by (back e ⊕ a ⊙ is_zero a z) (omega arith)))

-- d w^2 is no square either, where w is not 0: of d w^2 = v^2 follows d = (v/w)^2.
pub d-no-square : (w v : ℕ) → (w % p ≡ 0 → ⊥) → (d * (w * w)) % p ≡ (v * v) % p → ⊥
d-no-square w v other e =
    let a : ℕ = div_f v w in
    let v-is : Same (a * w) v = over v w other in
    let squares : Same (d * (w * w)) (v * v) = known e in
    not-d a (divide (w * w) (times-other w w other other) (by (v-is ⊗ v-is ⊕ back squares) (omega arith)))
