-- What is doubled stands for the sum of the point and itself.
use Prim.Native.Nat.{ℕ, ◌+◌, ◌*◌}
use native.Mathlib.Omega.{arith}
use Rattle.ed25519_field.specs.Field.{add_f, sub_f, mul_f}
use Rattle.ed25519_field.proofs.Elements.{mul_most}
use Rattle.ed25519_curve.specs.Points.{Pt, d, point_double}
use Rattle.ed25519_curve.proofs.Affine.{double-is-sum}
use Rattle.ed25519_prime_laws.proofs.Squares.{times-other}
use Rattle.ed25519_group_laws.specs.Affine.{Affine, sum_of}
use Rattle.ed25519_group_laws.specs.Standing.{StandsFor}
use Rattle.ed25519_group_laws.proofs.Modulo.{Same, equal, back, ◌⨾◌, ◌⊕◌, ◌⊙◌, ◌⊗◌, modulo, by}
use Rattle.ed25519_group_laws.proofs.Division.{add_same, mul-same, sub_same}
use Rattle.ed25519_group_laws.proofs.Sums.{k}
use Rattle.ed25519_group_laws.proofs.Standing.{x-is, y-is, on, stands, product-other}

module _ (P : Pt) (a : Affine) (s : StandsFor P a) where
  abbrev ZZ : ℕ
  ZZ = P.Z * P.Z

  abbrev XX : ℕ
  XX = mul_f P.X P.X

  abbrev YY : ℕ
  YY = mul_f P.Y P.Y

  G : ℕ
  G = sub_f XX YY

  F : ℕ
  F = add_f (add_f (mul_f P.Z P.Z) (mul_f P.Z P.Z)) G

  xx-is : Same (P.X * P.X) (a.x * P.Z * (a.x * P.Z))
  xx-is = x-is P a s ⊗ x-is P a s

  yy-is : Same (P.Y * P.Y) (a.y * P.Z * (a.y * P.Z))
  yy-is = y-is P a s ⊗ y-is P a s

  on-curve-z : Same (ZZ * (P.Y * P.Y)) (ZZ * (P.X * P.X) + (ZZ * ZZ + d * (P.X * P.X * (P.Y * P.Y))))
  on-curve-z =
      by (ZZ ⊙ yy-is ⊕ (ZZ * ZZ) ⊙ on P a s ⊕ ZZ ⊙ back xx-is ⊕ d ⊙ back (xx-is ⊗ yy-is)) (omega arith)

  -- X^2 - Y^2 + Z^2 (1 + k) = 0
  double-G : Same (G + ZZ * (1 + k a a)) 0
  unfolding G
  double-G =
      let x = mul-same P.X P.X ⨾ xx-is in
      let y = mul-same P.Y P.Y ⨾ yy-is in
      by (sub_same XX YY (mul_most _ _) ⊕ x ⊕ back y ⊕ ZZ ⊙ back (on P a s)) (omega arith)

  double-F : Same (F + ZZ * k a a) ZZ
  unfolding F
  double-F = grw (modulo, add_same, add_same, mul-same, mul-same) (by double-G (omega arith))

  pub double-stands : StandsFor (point_double P) (sum_of a a)
  unfolding point_double F G
  double-stands =
      stands P P (point_double P) a a s s (double-is-sum P (equal on-curve-z)) (mul_most _ _)
      (product-other a a (on P a s) (on P a s) ZZ F G (times-other P.Z P.Z s.other s.other) double-F
      (λ z. by (double-G ⊕ back z) (omega arith)))
