-- The curve's equation of plain numbers modulo p, with x^2 on the other side, so that nothing is subtracted.
use Prim.Native.Nat.{ℕ, ◌+◌, ◌*◌}
use native.Mathlib.Omega.{arith}
use Rattle.ed25519_field.specs.Field.{add_f, mul_f}
use Rattle.ed25519_field.proofs.Elements.{mul_most, difference}
use Rattle.ed25519_curve.specs.Points.{d}
use Rattle.ed25519_curve.specs.Equation.{OnCurve}
use Rattle.ed25519_curve.proofs.Affine.{affine-on-curve}
use Rattle.ed25519_group_laws.proofs.Modulo.{Same, known, equal, back, ◌⊕◌, modulo, by}
use Rattle.ed25519_group_laws.proofs.Division.{mul-same}

abbrev pub On : ℕ → ℕ → Type 0
On x y = Same (y * y) (x * x + (1 + d * (x * x * (y * y))))

-- d x1 x2 y1 y2, which section 3 adds to 1 and takes from 1 in what it divides by
abbrev pub cross : ℕ → ℕ → ℕ → ℕ → ℕ
cross x1 y1 x2 y2 = d * (x1 * x2 * (y1 * y2))

pub on-plain : (x y : ℕ) → OnCurve x y → On x y
on-plain x y on =
    let e : Same (1 * 1 * (y * y)) (1 * 1 * (x * x) + (1 * 1 * (1 * 1) + d * (x * x * (y * y)))) =
    known (affine-on-curve x y on) in
    by e (omega arith)

pub on-field : (x y : ℕ) → On x y → OnCurve x y
unfolding add_f
on-field x y on =
    let one : Same (mul_f d (mul_f (mul_f x x) (mul_f y y))) (d * (x * x * (y * y))) =
    grw (modulo, mul-same, mul-same, mul-same, mul-same) in
    let sum : Same (1 + mul_f d (mul_f (mul_f x x) (mul_f y y)) + mul_f x x) (mul_f y y) =
    by (one ⊕ mul-same x x ⊕ back on ⊕ back (mul-same y y)) (omega arith) in
    difference (mul_f y y) (mul_f x x) (1 + mul_f d (mul_f (mul_f x x) (mul_f y y))) (mul_most x x) (equal sum)
