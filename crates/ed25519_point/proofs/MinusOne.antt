-- 2^((p-1)/4) as a number, computed by squarings, and that it is a square root of -1.
use Prim.Native.Nat.{ℕ, ◌-◌, ◌/◌, ◌%◌, ◌^◌, ◌<◌}
use mathlib.Core.Path.{◌≡◌, refl, sym, ◌∙◌}
use lib.Dec.{lit<}
use Rattle.digits.proofs.Powers.{by_bits, power-is}
use Rattle.ed25519_field.specs.Field.{p, mul_f, pow_f}
use Rattle.ed25519_point.specs.Decoding.{sqrt_m1}

unfoldable pub sqrt_number : ℕ
sqrt_number = 19681161376707505956807079304988542015446066515923890162744021073123829784752

exponent-low : (p - 1) / 4 < 2 ^ 253
unfolding p
exponent-low = lit< tt

computed : by_bits p 253 2 ((p - 1) / 4) 1 % p ≡ sqrt_number
unfolding p by_bits sqrt_number
computed = refl

pub sqrt-m1-is : sqrt_m1 ≡ sqrt_number
unfolding sqrt_m1 pow_f
sqrt-m1-is = sym (power-is p 253 2 ((p - 1) / 4) exponent-low) ∙ computed

number-squared : mul_f sqrt_number sqrt_number ≡ p - 1
unfolding p sqrt_number mul_f
number-squared = refl

-- its square is -1
pub sqrt-m1-squared : mul_f sqrt_m1 sqrt_m1 ≡ p - 1
sqrt-m1-squared = rw sqrt-m1-is number-squared
