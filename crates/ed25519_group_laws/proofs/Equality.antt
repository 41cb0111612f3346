-- Two points are equal exactly where they stand for the same.
use Prim.Native.Nat.{ℕ, ◌*◌, ◌<◌, ◌%◌}
use mathlib.Core.Path.{◌≡◌, refl, sym, ap, ◌∙◌}
use mathlib.Core.Bool.{Bool, true, false}
use mathlib.Core.Logic.{◌↔◌}
use native.Mathlib.Omega.{arith}
use borrow.Author.Tests.{eqb-true, eqb-false, eq-eqb, ne_eqb}
use lib.Dec.{eqb}
use Rattle.laws.proofs.Holds.{both}
use Rattle.ed25519_field.specs.Field.{p, mul_f}
use Rattle.ed25519_field.proofs.Elements.{mul-below}
use Rattle.ed25519_curve.specs.Points.{Pt, point_equal}
use Rattle.ed25519_prime_laws.proofs.Squares.{times-other}
use Rattle.ed25519_group_laws.specs.Affine.{Affine, same_of}
use Rattle.ed25519_group_laws.specs.Group.{Point}
use Rattle.ed25519_group_laws.specs.Standing.{StandsFor}
use Rattle.ed25519_group_laws.proofs.Modulo.{Same, known, same, back, ◌⨾◌, modulo, below}
use Rattle.ed25519_group_laws.proofs.Division.{mul-same, divide}
use Rattle.ed25519_group_laws.proofs.Group.{same_point}

-- one coordinate: u = U/Y and v = W/Z
module _ (U W u v Y Z : ℕ) (u-below : u < p) (v_below : v < p) (Y-other : Y % p ≡ 0 → ⊥) (Z-other : Z % p ≡ 0 → ⊥)
    (U-is : Same U (u * Y)) (W-is : Same W (v * Z)) where
  left : Same (mul_f U Z) (u * (Y * Z))
  left = grw (modulo, mul-same, U-is) (same (omega arith))

  right : Same (mul_f W Y) (v * (Y * Z))
  right = grw (modulo, mul-same, W-is) (same (omega arith))

  coordinate : eqb (mul_f U Z) (mul_f W Y) ≡ eqb u v
  coordinate = pick (eqb u v) refl
    where
      pick : (t : Bool) → eqb u v ≡ t → eqb (mul_f U Z) (mul_f W Y) ≡ t
      pick true e =
          eq-eqb _ _ (below (mul-below U Z) (mul-below W Y)
          (left ⨾ same (ap (λ n. n * (Y * Z)) (eqb-true u v e)) ⨾ back right))
      pick false e =
          ne_eqb _ _ (λ h. eqb-false u v e (below u-below v_below
          (divide (Y * Z) (times-other Y Z Y-other Z-other) (back left ⨾ same h ⨾ right))))

-- the test of two points (x, y) says true exactly where they are the same
pub same-exactly : (a b : Affine) → Point a → Point b → same_of a b ≡ true ↔ (a ≡ b)
same-exactly a b pa pb = (λ e. one (both _ _ e), λ e. rw (← e) itself)
  where
    one : (eqb a.x b.x ≡ true) × (eqb a.y b.y ≡ true) → a ≡ b
    one e = same_point a b pa pb (same (eqb-true a.x b.x e.0)) (same (eqb-true a.y b.y e.1))

    itself : same_of a a ≡ true
    itself = rw (eq-eqb a.x a.x refl, eq-eqb a.y a.y refl)

module _ (P Q : Pt) (a b : Affine) (s : StandsFor P a) (t : StandsFor Q b) where
  pub equal_is : point_equal P Q ≡ same_of a b
  unfolding point_equal
  equal_is =
      rw (
        coordinate P.X Q.X a.x b.x P.Z Q.Z s.point.x_below t.point.x_below s.other t.other
            (known s.x) (known t.x),
        coordinate P.Y Q.Y a.y b.y P.Z Q.Z s.point.y-below t.point.y-below s.other t.other
            (known s.y) (known t.y),
      )

  -- so the test says true exactly where they are the same point
  pub equal-exactly : point_equal P Q ≡ true ↔ (a ≡ b)
  equal-exactly =
      let exactly = same-exactly a b s.point t.point in
      (λ e. exactly.0 (sym equal_is ∙ e), λ e. equal_is ∙ exactly.1 e)
