-- B has the order L and no lesser.
use Prim.Native.Nat.{ℕ, ◌+◌, ◌-◌, ◌*◌, ◌%◌, ◌≤◌}
use mathlib.Core.Path.{◌≡◌, sym, ap, ◌∙◌}
use mathlib.Core.Logic.{◌↔◌}
use native.Mathlib.Omega.{arith}
use native.Mathlib.Nat.{mul-le-mul_right}
use Rattle.ed25519_curve.specs.Points.{base}
use Rattle.ed25519_scalar.specs.Order.{L}
use Rattle.ed25519_scalar.proofs.Steps.{L-pos}
use Rattle.digits.proofs.Mods.{cancel}
use Rattle.ed25519_prime_laws.proofs.Euclid.{multiple}
use Rattle.ed25519_group_laws.specs.Affine.{sum_of, zero_point, times_of, point_of}
use Rattle.ed25519_group_laws.proofs.Times.{times_zero, times-add}
use Rattle.ed25519_group_laws.proofs.Dividing.{rest_of, B, B-point, B-order, divided}

-- [n]B is (0, 1) exactly where L divides n
pub order-exactly : (n : ℕ) → times_of n (point_of base) ≡ zero_point ↔ (n % L ≡ 0)
unfolding B
order-exactly n = (
  divided n,
  λ e. rest_of B B-point L B-order n ∙ ap (λ i. times_of i B) e ∙ times_zero B,
)

-- [m]B and [n]B are the same exactly where m and n are, modulo L
pub times-exactly : (m n : ℕ) → times_of m (point_of base) ≡ times_of n (point_of base) ↔ (m % L ≡ n % L)
unfolding B
times-exactly m n =
    (there, λ e. rest_of B B-point L B-order m ∙ ap (λ i. times_of i B) e ∙ sym (rest_of B B-point L B-order n))
  where
    -- c more make [n]B (0, 1), and so [m]B
    there : times_of m B ≡ times_of n B → m % L ≡ n % L
    there e =
        let c : ℕ = L * n - n in
        let l : 1 * n ≤ L * n = mul-le-mul_right n L-pos in
        let all : n + c ≡ L * n = omega arith in
        let none : (n + c) % L ≡ 0 = ap (λ i. i % L) all ∙ multiple L n in
        let moved : times_of (m + c) B ≡ times_of (n + c) B =
        times-add m c B B-point ∙ ap (λ b. sum_of b (times_of c B)) e ∙ sym (times-add n c B B-point) in
        cancel L L-pos m n c (divided (m + c) (moved ∙ (order-exactly (n + c)).1 none) ∙ sym none)
