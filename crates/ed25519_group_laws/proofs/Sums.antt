-- Section 3's law of two points of the curve: "the denominators are non-zero for all input points", and the sum is on
-- the curve.
use Prim.Native.Nat.{ℕ, ◌+◌, ◌*◌, ◌%◌}
use mathlib.Core.Path.{◌≡◌}
use native.Mathlib.Omega.{arith}
use Rattle.ed25519_field.specs.Field.{p, add_f, sub_f}
use Rattle.ed25519_field.proofs.Elements.{mul_most}
use Rattle.ed25519_curve.specs.Points.{d}
use Rattle.ed25519_curve.specs.Equation.{OnCurve}
use Rattle.ed25519_group_laws.specs.Affine.{Affine, cross_f, sum_of}
use Rattle.ed25519_group_laws.proofs.Modulo.{Same, same, back, ◌⨾◌, ◌⊕◌, ◌⊙◌, modulo, by, gone, not-zero}
use Rattle.ed25519_group_laws.proofs.Division.{add_same, mul-same, sub_same, over}
use Rattle.ed25519_group_laws.proofs.Curve.{On, cross, on-plain, on-field}
use Rattle.ed25519_group_laws.proofs.Denominators.{plus-other, less_other}
use Rattle.ed25519_group_laws.proofs.Closed.{closed}

-- d x1 x2 y1 y2 as a number
abbrev pub k : Affine → Affine → ℕ
k a b = cross a.x a.y b.x b.y

-- what x and y are divided by
abbrev pub below-x : Affine → Affine → ℕ
below-x a b = add_f 1 (cross_f a b)

abbrev pub below-y : Affine → Affine → ℕ
below-y a b = sub_f 1 (cross_f a b)

module _ (a b : Affine) where
  k-is : Same (cross_f a b) (k a b)
  k-is = grw (modulo, mul-same, mul-same, mul-same, mul-same)

  pub below-x-is : Same (below-x a b) (1 + k a b)
  below-x-is = grw (modulo, add_same, k-is)

  pub below-y-is : Same (below-y a b + k a b) 1
  below-y-is = by (sub_same 1 (cross_f a b) (mul_most d _) ⊕ back k-is) (omega arith)

  module _ (on-a : On a.x a.y) (on-b : On b.x b.y) where
    pub below-x-other : below-x a b % p ≡ 0 → ⊥
    below-x-other = not-zero below-x-is (plus-other a.x a.y b.x b.y on-a on-b)

    pub below-y-other : below-y a b % p ≡ 0 → ⊥
    below-y-other = less_other a.x a.y b.x b.y (below-y a b) on-a on-b below-y-is

    pub sum-x : Same ((sum_of a b).x * below-x a b) (a.x * b.y + b.x * a.y)
    unfolding sum_of
    sum-x = over _ _ below-x-other ⨾ grw (modulo, add_same, mul-same, mul-same)

    pub sum-y : Same ((sum_of a b).y * below-y a b) (a.y * b.y + a.x * b.x)
    unfolding sum_of
    sum-y = over _ _ below-y-other ⨾ grw (modulo, add_same, mul-same, mul-same)

    pub sum-on : On (sum_of a b).x (sum_of a b).y
    sum-on =
        let x : ℕ = (sum_of a b).x in
        closed a.x a.y b.x b.y (below-y a b) x (sum_of a b).y on-a on-b below-y-is
        (by (sum-x ⊕ x ⊙ back below-x-is) (omega arith)) sum-y

  -- both by the curve's equation as curve defines it
  module _ (on-a : OnCurve a.x a.y) (on-b : OnCurve b.x b.y) where
    pub denominators-other : (add_f 1 (cross_f a b) ≡ 0 → ⊥) × (sub_f 1 (cross_f a b) ≡ 0 → ⊥)
    denominators-other =
        let on1 = on-plain a.x a.y on-a in
        let on2 = on-plain b.x b.y on-b in
        (λ e. below-x-other on1 on2 (gone (same e)), λ e. below-y-other on1 on2 (gone (same e)))

    pub sum-on-curve : OnCurve (sum_of a b).x (sum_of a b).y
    sum-on-curve =
        on-field (sum_of a b).x (sum_of a b).y (sum-on (on-plain a.x a.y on-a) (on-plain b.x b.y on-b))
