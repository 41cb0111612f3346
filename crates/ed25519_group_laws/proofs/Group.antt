-- The points of the curve are a commutative group under section 3's addition: (0, 1) is neutral, and -(x, y) = (-x, y).
use Prim.Native.Nat.{ℕ, ◌+◌, ◌*◌, ◌<◌}
use mathlib.Core.Path.{◌≡◌, refl, ◌∙◌}
use native.Mathlib.Omega.{arith}
use lib.Dec.{lit<}
use Rattle.ed25519_field.specs.Field.{p, add_f, sub_f, mul_f}
use Rattle.ed25519_field.proofs.Elements.{mul-below, sub-below}
use Rattle.ed25519_curve.specs.Points.{d}
use Rattle.ed25519_group_laws.specs.Affine.{Affine, div_f, sum_of, zero_point}
use Rattle.ed25519_group_laws.specs.Group.{Point, minus_of}
use Rattle.ed25519_group_laws.proofs.Modulo.{Same, same, back, ◌⊕◌, ◌⊙◌, by, below}
use Rattle.ed25519_group_laws.proofs.Division.{sub_same, divide}
use Rattle.ed25519_group_laws.proofs.Curve.{on-plain, on-field}
use Rattle.ed25519_group_laws.proofs.Sums.{below-x-is, below-y-is, below-x-other, below-y-other, sum-x, sum-y, sum-on-curve}
use Rattle.ed25519_group_laws.proofs.Associative.{Lies, Adds, other_way, associative}

pub same_point : (a b : Affine) → Point a → Point b → Same a.x b.x → Same a.y b.y → a ≡ b
same_point a b pa pb xs ys =
    pair a.x a.y b.x b.y (below pa.x_below pb.x_below xs) (below pa.y-below pb.y-below ys)
  where
    pair : (x y u v : ℕ) → x ≡ u → y ≡ v → ◌≡◌ {A = Affine} (record { x = x; y = y }) (record { x = u; y = v })
    pair x y u v e f = cc

lies : (a : Affine) → Point a → Lies a
lies a pa = on-plain a.x a.y pa.on-curve

div_below : (m n : ℕ) → div_f m n < p
unfolding div_f
div_below m n = mul-below m _

pub sum-point : (a b : Affine) → Point a → Point b → Point (sum_of a b)
unfolding sum_of
sum-point a b pa pb = record {
  x_below = div_below _ _;
  y-below = div_below _ _;
  on-curve = sum-on-curve a b pa.on-curve pb.on-curve;
}

sum-adds : (a b : Affine) → Point a → Point b → Adds a b (sum_of a b)
sum-adds a b pa pb = record {
  x = by (sum-x a b (lies a pa) (lies b pb) ⊕ (sum_of a b).x ⊙ back (below-x-is a b)) (omega arith);
  y = by (sum-y a b (lies a pa) (lies b pb) ⊕ (sum_of a b).y ⊙ back (below-y-is a b)) (omega arith);
}

-- what satisfies the law is the sum
sum_is : (a b e : Affine) → Point a → Point b → Point e → Adds a b e → sum_of a b ≡ e
sum_is a b e pa pb pe sum =
    same_point (sum_of a b) e (sum-point a b pa pb) pe
    (divide _ (below-x-other a b (lies a pa) (lies b pb))
    (by (sum-x a b (lies a pa) (lies b pb) ⊕ back sum.x ⊕ e.x ⊙ back (below-x-is a b)) (omega arith)))
    (divide _ (below-y-other a b (lies a pa) (lies b pb))
    (by (sum-y a b (lies a pa) (lies b pb) ⊕ back sum.y ⊕ e.y ⊙ back (below-y-is a b)) (omega arith)))

pub zero-point : Point zero_point
unfolding p d add_f sub_f mul_f
zero-point = record { x_below = lit< tt; y-below = lit< tt; on-curve = refl }

pub sum-commutes : (a b : Affine) → Point a → Point b → sum_of a b ≡ sum_of b a
sum-commutes a b pa pb =
    sum_is a b (sum_of b a) pa pb (sum-point b a pb pa) (other_way b a (sum_of b a) (sum-adds b a pb pa))

pub sum-zero : (a : Affine) → Point a → sum_of a zero_point ≡ a
sum-zero a pa =
    sum_is a zero_point a pa zero-point pa (record { x = same (omega arith); y = same (omega arith) })

pub zero-sum : (a : Affine) → Point a → sum_of zero_point a ≡ a
zero-sum a pa = sum-commutes zero_point a zero-point pa ∙ sum-zero a pa

pub sum-associates : (a b e : Affine) → Point a → Point b → Point e → sum_of (sum_of a b) e ≡ sum_of a (sum_of b e)
sum-associates a b e pa pb pe =
    let pab = sum-point a b pa pb in
    let pbe = sum-point b e pb pe in
    let both = associative a b e (sum_of a b) (sum_of b e) _ _ (lies a pa) (lies b pb) (lies e pe) (sum-adds a b pa pb)
    (sum-adds b e pb pe) (sum-adds (sum_of a b) e pab pe) (sum-adds a (sum_of b e) pa pbe) in
    same_point _ _ (sum-point _ _ pab pe) (sum-point _ _ pa pbe) both.0 both.1

-- x and -x
opposite : (x : ℕ) → x < p → Same (x + sub_f 0 x) 0
opposite x low = by (sub_same 0 x (omega arith)) (omega arith)

pub minus-point : (a : Affine) → Point a → Point (minus_of a)
minus-point a pa =
    let none = opposite a.x pa.x_below in
    record {
      x_below = sub-below 0 a.x;
      y-below = pa.y-below;
      on-curve = on-field (sub_f 0 a.x) a.y (minus-on a.x (sub_f 0 a.x) a.y none (lies a pa));
    }
  where
    minus-on : (x u y : ℕ) → Same (x + u) 0 → Lies (record { x = x; y = y }) → Lies (record { x = u; y = y })
    minus-on x u y none on = by (on ⊕ (x + d * (x * (y * y))) ⊙ none ⊕ (u + d * (u * (y * y))) ⊙ back none) (omega arith)

pub sum-minus : (a : Affine) → Point a → sum_of a (minus_of a) ≡ zero_point
sum-minus a pa =
    let none = opposite a.x pa.x_below in
    sum_is a (minus_of a) zero_point pa (minus-point a pa) zero-point record {
      x = by (a.y ⊙ back none) (omega arith);
      y = by (back (lies a pa) ⊕ (a.x + d * (a.x * (a.y * a.y))) ⊙ back none) (omega arith);
    }
