-- Opposites: (-X, Y, Z, -T) stands for (-x, y), and what is added and taken off again.
use Prim.Native.Nat.{ℕ, ◌+◌, ◌*◌, ◌≤◌}
use mathlib.Core.Path.{◌≡◌, refl, sym, ap, ◌∙◌}
use mathlib.Core.Bool.{Bool, true, false}
use mathlib.Core.Logic.{◌↔◌}
use native.Mathlib.Omega.{arith}
use Rattle.ed25519_field.specs.Field.{p, sub_f}
use Rattle.ed25519_field.proofs.Elements.{sub-below}
use Rattle.ed25519_curve.specs.Points.{Pt}
use Rattle.ed25519_curve.specs.Coords.{opposite_of}
use Rattle.ed25519_group_laws.specs.Affine.{Affine, sum_of, zero_point, times_of, same_of}
use Rattle.ed25519_group_laws.specs.Group.{Point, minus_of}
use Rattle.ed25519_group_laws.specs.Standing.{StandsFor}
use Rattle.ed25519_group_laws.proofs.Modulo.{Same, known, equal, back, ◌⊕◌, ◌⊙◌, by}
use Rattle.ed25519_group_laws.proofs.Division.{sub_same}
use Rattle.ed25519_group_laws.proofs.Group.{minus-point, sum-point, sum-minus, sum-zero, sum-commutes, sum-associates}
use Rattle.ed25519_group_laws.proofs.Times.{times-point, times-add, times-sum, times-neutral}
use Rattle.ed25519_group_laws.proofs.Equality.{same-exactly}

pub opposite-stands : (P : Pt) (a : Affine) → P.T ≤ p → StandsFor P a → StandsFor (opposite_of P) (minus_of a)
opposite-stands P a low s =
    let x : Same (sub_f 0 a.x + a.x) 0 = sub_same 0 a.x (omega (arith, s.point.x_below)) in
    record {
      other = s.other;
      x = equal (by (sub_same 0 P.X s.low ⊕ back (known s.x) ⊕ P.Z ⊙ back x) (omega arith));
      y = s.y;
      t = equal (by (sub_same 0 P.T low ⊕ back (known s.t) ⊕ (a.y * P.Z) ⊙ back x) (omega arith));
      point = minus-point a s.point;
      low = omega (arith, sub-below 0 P.X);
    }

-- truth values that hold together
alike : (s t : Bool) → (s ≡ true → t ≡ true) → (t ≡ true → s ≡ true) → s ≡ t
alike true t f g = sym (f refl)
alike false true f g = g refl
alike false false f g = refl

-- P + Q = 0 and so R + P = S exactly where R = S + Q
module _ (a b e f : Affine) (pa : Point a) (pb : Point b) (pe : Point e) (pf : Point f)
    (none : sum_of a b ≡ zero_point) where
  over : sum_of e a ≡ f → e ≡ sum_of f b
  over h =
      sym (ap (λ g. sum_of g b) (sym h) ∙ sum-associates e a b pe pa pb ∙ ap (sum_of e) none ∙ sum-zero e pe)

  back-again : e ≡ sum_of f b → sum_of e a ≡ f
  back-again h =
      ap (λ g. sum_of g a) h ∙ sum-associates f b a pf pb pa ∙ ap (sum_of f) (sum-commutes b a pb pa ∙ none)
      ∙ sum-zero f pf

  left : same_of (sum_of e a) f ≡ true ↔ (sum_of e a ≡ f)
  left = same-exactly (sum_of e a) f (sum-point e a pe pa) pf

  right : same_of e (sum_of f b) ≡ true ↔ (e ≡ sum_of f b)
  right = same-exactly e (sum_of f b) pe (sum-point f b pf pb)

  pub sides : same_of (sum_of e a) f ≡ same_of e (sum_of f b)
  sides = alike _ _ (λ t. right.1 (over (left.0 t))) (λ t. left.1 (back-again (right.0 t)))

-- [m + n]P - [n]P = [m]P
pub times-less : (m n : ℕ) (a : Affine) → Point a → sum_of (times_of (m + n) a) (minus_of (times_of n a)) ≡ times_of m a
times-less m n a pa =
    let pm = times-point m a pa in
    let pn = times-point n a pa in
    ap (λ b. sum_of b (minus_of (times_of n a))) (times-add m n a pa)
    ∙ sum-associates (times_of m a) (times_of n a) (minus_of (times_of n a)) pm pn (minus-point (times_of n a) pn)
    ∙ ap (sum_of (times_of m a)) (sum-minus (times_of n a) pn) ∙ sum-zero (times_of m a) pm

-- [n](-P) + [n]P = 0
pub times-minus : (n : ℕ) (a : Affine) → Point a → sum_of (times_of n (minus_of a)) (times_of n a) ≡ zero_point
times-minus n a pa =
    let pm = minus-point a pa in
    sym (times-sum n (minus_of a) a pm pa)
    ∙ ap (times_of n) (sum-commutes (minus_of a) a pm pa ∙ sum-minus a pa) ∙ times-neutral n
