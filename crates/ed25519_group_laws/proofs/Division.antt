-- The field's operations as numbers modulo p; and that a / b is what times b is a.
use Prim.Native.Nat.{ℕ, suc, ◌+◌, ◌-◌, ◌*◌, ◌%◌, ◌^◌, ◌≤◌}
use mathlib.Core.Path.{◌≡◌, sym, ap, ◌∙◌}
use native.Mathlib.Omega.{arith}
use native.Mathlib.Nat.{mod-mod, pow-suc}
use Rattle.ed25519_field.specs.Field.{p, add_f, sub_f, mul_f, pow_f}
use Rattle.ed25519_field.proofs.Modulus.{p-large}
use Rattle.ed25519_field.proofs.Elements.{mul-rest, add-rest, minus_plus}
use Rattle.ed25519_prime_laws.proofs.Squares.{one_power}
use Rattle.ed25519_group_laws.specs.Affine.{div_f}
use Rattle.ed25519_group_laws.proofs.Modulo.{Same, known, back, ◌⊕◌, ◌⊙◌, modulo, by}

pub add_same : (x y : ℕ) → Same (add_f x y) (x + y)
add_same x y = known (add-rest x y)

pub mul-same : (x y : ℕ) → Same (mul_f x y) (x * y)
mul-same x y = known (mul-rest x y)

pub sub_same : (x y : ℕ) → y ≤ p → Same (sub_f x y + y) x
sub_same x y h = known (minus_plus x y h)

-- b^(p-2) b = b^(p-1), which is 1 by Fermat's theorem
inverse : (b : ℕ) → (b % p ≡ 0 → ⊥) → Same (pow_f b (p - 2) * b) 1
unfolding pow_f
inverse b other =
    let e : p - 1 ≡ suc (p - 2) = omega (arith, p-large) in
    let rest : Same (b ^ (p - 2) % p) (b ^ (p - 2)) = known (mod-mod (b ^ (p - 2)) p) in
    grw (modulo, rest)
    (known (ap (λ n. n % p) (sym (pow-suc b (p - 2)) ∙ ap (λ n. b ^ n) (sym e)) ∙ one_power b other))

-- what is multiplied with on both sides falls away, where it is not 0
pub divide : (c : ℕ) {a b : ℕ} → (c % p ≡ 0 → ⊥) → Same (a * c) (b * c) → Same a b
divide c {a} {b} other e =
    let i : ℕ = pow_f c (p - 2) in
    by (i ⊙ e ⊕ a ⊙ back (inverse c other) ⊕ b ⊙ inverse c other) (omega arith)

pub over : (a b : ℕ) → (b % p ≡ 0 → ⊥) → Same (div_f a b * b) a
unfolding div_f
over a b other = grw (modulo, mul-same) (by (a ⊙ inverse b other) (omega arith))
