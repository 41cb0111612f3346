-- What is added stands for the sum.
use Prim.Native.Nat.{ℕ, ◌+◌, ◌*◌, ◌%◌}
use mathlib.Core.Path.{◌≡◌}
use native.Mathlib.Omega.{arith}
use native.Mathlib.Nat.{mod-mod}
use Rattle.ed25519_field.specs.Field.{p, add_f, sub_f, mul_f}
use Rattle.ed25519_field.proofs.Elements.{mul_most}
use Rattle.ed25519_curve.specs.Points.{Pt, d, two_d, point_add}
use Rattle.ed25519_curve.proofs.Affine.{add-is-sum}
use Rattle.ed25519_prime_laws.proofs.Squares.{times-other}
use Rattle.ed25519_group_laws.specs.Affine.{Affine, sum_of}
use Rattle.ed25519_group_laws.specs.Standing.{StandsFor}
use Rattle.ed25519_group_laws.proofs.Modulo.{Same, known, equal, same, back, ◌⊕◌, modulo, by, not-zero, small-other}
use Rattle.ed25519_group_laws.proofs.Division.{add_same, mul-same, sub_same}
use Rattle.ed25519_group_laws.proofs.Sums.{k}
use Rattle.ed25519_group_laws.proofs.Standing.{t-is, on, extended, stands, product-other}

two-d-is : Same two_d (2 * d)
unfolding two_d
two-d-is = known (mod-mod (2 * d) p)

module _ (P Q : Pt) (a b : Affine) (sP : StandsFor P a) (sQ : StandsFor Q b) where
  C : ℕ
  C = mul_f (mul_f P.T two_d) Q.T

  D : ℕ
  D = mul_f (add_f P.Z P.Z) Q.Z

  D-is : Same D (P.Z * 2 * Q.Z)
  unfolding D
  D-is = grw (modulo, mul-same, add_same) (same (omega arith))

  C-is : Same C (D * k a b)
  unfolding C
  C-is = grw (modulo, mul-same, mul-same, two-d-is, t-is P a sP, t-is Q b sQ, ← back D-is) (same (omega arith))

  D-other : D % p ≡ 0 → ⊥
  D-other =
      let two = small-other 2 (omega arith) (omega arith) in
      not-zero D-is (times-other (P.Z * 2) Q.Z (times-other P.Z 2 sP.other two) sQ.other)

  add-F : Same (sub_f D C + D * k a b) D
  unfolding C
  add-F = by (sub_same D C (mul_most _ _) ⊕ back C-is) (omega arith)

  add-G : Same (add_f D C) 0 → Same (D * (1 + k a b)) 0
  add-G z = by (z ⊕ back (add_same D C) ⊕ back C-is) (omega arith)

  pub sum-stands : StandsFor (point_add P Q) (sum_of a b)
  unfolding point_add C D
  sum-stands =
      stands P Q (point_add P Q) a b sP sQ
      (add-is-sum P Q sP.low sQ.low (equal (extended P a sP)) (equal (extended Q b sQ))) (mul_most _ _)
      (product-other a b (on P a sP) (on Q b sQ) D (sub_f D C) (add_f D C) D-other add-F add-G)
