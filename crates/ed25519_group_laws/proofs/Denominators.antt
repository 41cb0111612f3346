-- The affine law divides by nothing that is 0: with k = d x1 x2 y1 y2 for two points of the curve, neither 1 + k nor
-- 1 - k is 0. Were one of them, then k^2 = 1, and with a square root i of -1
--   (i k x1 + y1)^2 = d (x1 y1 (i x2 + y2))^2,
-- so that i x2 + y2 = 0, as d is no square. The same holds with -i for i, and so y2 = 0; but then k = 0.
use Prim.Native.Nat.{ℕ, ◌+◌, ◌*◌, ◌/◌, ◌%◌}
use mathlib.Core.Path.{◌≡◌}
use native.Mathlib.Omega.{arith}
use native.Mathlib.Decide.{ℕ_discrete}
use native.Mathlib.Nat.{div-add-mod}
use Rattle.digits.proofs.Mods.{more}
use Rattle.ed25519_field.specs.Field.{p, mul_f}
use Rattle.ed25519_field.proofs.Modulus.{p-pos}
use Rattle.ed25519_curve.specs.Points.{d}
use Rattle.ed25519_point.specs.Decoding.{sqrt_m1}
use Rattle.ed25519_point.proofs.MinusOne.{sqrt-m1-squared}
use Rattle.ed25519_prime_laws.proofs.Squares.{times-other}
use Rattle.ed25519_group_laws.proofs.Modulo.{Same, known, equal, back, ◌⊕◌, ◌⊙◌, by, is_zero, gone, small-other}
use Rattle.ed25519_group_laws.proofs.Curve.{On, cross}
use Rattle.ed25519_group_laws.proofs.NoSquare.{d-no-square}

-- i^2 = -1, and the same of i^3, which is -i
pub minus_one : Same (sqrt_m1 * sqrt_m1 + 1) 0
unfolding mul_f
minus_one =
    let n : ℕ = sqrt_m1 * sqrt_m1 in
    let s : n + 1 ≡ 0 + p * (n / p + 1) = omega (arith, div-add-mod n p, sqrt-m1-squared, p-pos) in
    known (more p (n + 1) 0 (n / p + 1) s)

cubed : (i : ℕ) → Same (i * i + 1) 0 → Same (i * i * i * (i * i * i) + 1) 0
cubed i root = by ((i * i * (i * i) + 1) ⊙ root ⊕ (i * i) ⊙ back root) (omega arith)

-- (i x + y)^2 = 1 + d x^2 y^2 + 2 i x y
squared : (i x y : ℕ) → Same (i * i + 1) 0 → On x y
    → Same ((i * x + y) * (i * x + y)) (1 + d * (x * y * (x * y)) + 2 * (i * (x * y)))
squared i x y root on = by ((x * x) ⊙ root ⊕ on) (omega arith)

module _ (x1 y1 x2 y2 : ℕ) (on1 : On x1 y1) (on2 : On x2 y2) where
  abbrev k : ℕ
  k = cross x1 y1 x2 y2

  module _ (one : Same (k * k) 1) where
    -- k is not 0, and so x1 y1 and y2 are not
    k-other : k % p ≡ 0 → ⊥
    k-other z =
        small-other 1 (omega arith) (omega arith) (gone (by (back one ⊕ k ⊙ is_zero k z) (omega arith)))

    s1-other : (x1 * y1) % p ≡ 0 → ⊥
    s1-other z = k-other (gone (by ((d * (x2 * y2)) ⊙ is_zero (x1 * y1) z) (omega arith)))

    y2-other : y2 % p ≡ 0 → ⊥
    y2-other z = k-other (gone (by ((d * (x1 * x2 * y1)) ⊙ is_zero y2 z) (omega arith)))

    module _ (i : ℕ) (root : Same (i * i + 1) 0) where
      -- (i k)^2 = -1, so that both are 1 + d x1^2 y1^2 + 2 i k x1 y1
      squares : Same (d * (x1 * y1 * (i * x2 + y2) * (x1 * y1 * (i * x2 + y2)))) ((i * k * x1 + y1) * (i * k * x1 + y1))
      squares =
          let turned : Same (i * k * (i * k) + 1) 0 = by ((k * k) ⊙ root ⊕ back one) (omega arith) in
          by
          ((d * (x1 * y1 * (x1 * y1))) ⊙ squared i x2 y2 root on2 ⊕ one ⊕
          back (squared (i * k) x1 y1 turned on1))
          (omega arith)

      factor-zero : Same (i * x2 + y2) 0
      factor-zero =
          let n : ℕ = i * x2 + y2 in
          elim (ℕ_discrete (n % p) 0) [
            | yes z ↦ is_zero n z
            | no z ↦ absurd
                (d-no-square (x1 * y1 * n) (i * k * x1 + y1) (times-other (x1 * y1) n s1-other z) (equal squares))
          ]

    square-other : ⊥
    square-other =
        let i : ℕ = sqrt_m1 in
        let twice : Same (2 * y2) 0 =
        by
        (factor-zero i minus_one ⊕ factor-zero (i * i * i) (cubed i minus_one) ⊕ (i * x2) ⊙ back minus_one)
        (omega arith) in
        times-other 2 y2 (small-other 2 (omega arith) (omega arith)) y2-other (gone twice)

pub plus-other : (x1 y1 x2 y2 : ℕ) → On x1 y1 → On x2 y2 → (1 + cross x1 y1 x2 y2) % p ≡ 0 → ⊥
plus-other x1 y1 x2 y2 on1 on2 z =
    let k : ℕ = cross x1 y1 x2 y2 in
    let e : Same (1 + k) 0 = is_zero (1 + k) z in
    square-other x1 y1 x2 y2 on1 on2 (by (k ⊙ e ⊕ back e) (omega arith))

pub minus-other : (x1 y1 x2 y2 : ℕ) → On x1 y1 → On x2 y2 → Same (cross x1 y1 x2 y2) 1 → ⊥
minus-other x1 y1 x2 y2 on1 on2 e =
    square-other x1 y1 x2 y2 on1 on2 (by ((cross x1 y1 x2 y2 + 1) ⊙ e) (omega arith))

-- n = 1 - k
pub less_other : (x1 y1 x2 y2 n : ℕ) → On x1 y1 → On x2 y2 → Same (n + cross x1 y1 x2 y2) 1 → n % p ≡ 0 → ⊥
less_other x1 y1 x2 y2 n on1 on2 e z =
    minus-other x1 y1 x2 y2 on1 on2 (by (e ⊕ back (is_zero n z)) (omega arith))
