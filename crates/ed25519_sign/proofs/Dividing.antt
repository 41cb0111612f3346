-- X/Z is x where X is x Z: so coordinates, divided, are encoded as the point that they stand for.
use Prim.Native.Nat.{ℕ, ◌-◌, ◌*◌, ◌%◌, ◌<◌}
use mathlib.Core.Path.{◌≡◌, ap, ap₂, ◌∙◌}
use mathlib.Core.List.{List}
use Rattle.ed25519_field.specs.Field.{p, mul_f, pow_f}
use Rattle.ed25519_field.specs.Limbs.{num}
use Rattle.ed25519_field.proofs.Elements.{mul-below}
use Rattle.ed25519_curve.specs.declared.Flat.{Flat}
use Rattle.ed25519_curve.specs.Equation.{Equal}
use Rattle.ed25519_point.specs.Encoding.{encode_of}
use Rattle.ed25519_group_laws.specs.Affine.{Affine, div_f}
use Rattle.ed25519_group_laws.proofs.Modulo.{known, below, ◌⨾◌}
use Rattle.ed25519_group_laws.proofs.Division.{divide, over}
use Rattle.ed25519_windows.specs.Windows.{FlatFor}

quotient : (x X Z : ℕ) → x < p → (Z % p ≡ 0 → ⊥) → Equal X (x * Z) → mul_f X (pow_f Z (p - 2)) ≡ x
unfolding div_f
quotient x X Z low other e = below (mul-below X (pow_f Z (p - 2))) low (divide Z other (over X Z other ⨾ known e))

-- i is 1/Z
pub coded : (q : Flat) (i x y r : List ℕ) → num i ≡ pow_f (num q.z) (p - 2) → num x ≡ mul_f (num q.x) (num i)
    → num y ≡ mul_f (num q.y) (num i) → r ≡ encode_of (num x) (num y)
    → (a : Affine) → FlatFor q a → r ≡ encode_of a.x a.y
coded q i x y r i-is x-is y-is r-is a f =
    let s = f.stands in
    let on = s.point in
    let times : (n : ℕ) → mul_f n (num i) ≡ mul_f n (pow_f (num q.z) (p - 2)) = λ n. ap (mul_f n) i-is in
    r-is
    ∙ ap₂ encode_of
    (x-is ∙ times (num q.x) ∙ quotient a.x (num q.x) (num q.z) on.x_below s.other s.x)
    (y-is ∙ times (num q.y) ∙ quotient a.y (num q.y) (num q.z) on.y-below s.other s.y)
