-- What makes the definitions of points believable without trusting coordinates: the constants of RFC 8032, section
-- 5.1, and that addition and doubling in extended coordinates are the affine law of section 3, multiplied out so that
-- nothing is divided.
use Prim.Native.Nat.{ℕ, ◌+◌, ◌-◌, ◌*◌, ◌/◌, ◌%◌, ◌≤◌, ◌<◌}
use mathlib.Core.Path.{◌≡◌, refl, sym, ap, ◌∙◌}
use native.Mathlib.Omega.{arith}
use native.Mathlib.Nat.{mod-mod, add-mul-mod_self_left, mod-lt, div-add-mod}
use Rattle.digits.proofs.Mods.{mul-mod, apart, add_cong, mul-cong, cancel}
use Rattle.ed25519_field.specs.Field.{p, add_f, sub_f, mul_f}
use Rattle.ed25519_field.proofs.Modulus.{p-pos}
use Rattle.ed25519_field.proofs.Elements.{in_left, in_right, add-in, mul-rest, add-rest, mul_most, sub-rest}
use Rattle.ed25519_field.proofs.Elements.{difference, minus_plus, zero_minus}
use Rattle.ed25519_curve.specs.Equation.{OnCurve, Equal, Extended, OnCurveZ, IsSum}
use Rattle.ed25519_curve.specs.Points.{Pt, d, two_d, affine, base, point_add, point_double}

-- the base point is on the curve: -x^2 + y^2 = 1 + d x^2 y^2
pub base-on-curve : OnCurve base.X base.Y
unfolding p d base add_f sub_f mul_f
base-on-curve = refl

-- its y is 4/5, and its x is even
pub base-y : mul_f 5 base.Y ≡ 4
unfolding p base mul_f
base-y = refl

pub base-x : base.X % 2 ≡ 0
unfolding base
base-x = refl

-- d is -121665/121666
pub d-is : add_f (mul_f d 121666) 121665 ≡ 0
unfolding p d add_f mul_f
d-is = refl

module _ (X1 Y1 X2 Y2 : ℕ) (h1 : X1 ≤ p) (h2 : X2 ≤ p) where
  A : ℕ
  A = mul_f (sub_f Y1 X1) (sub_f Y2 X2)

  B : ℕ
  B = mul_f (add_f Y1 X1) (add_f Y2 X2)

  A-is : A ≡ ((Y1 + (p - X1)) * (Y2 + (p - X2))) % p
  unfolding A mul_f sub_f
  A-is = sym (mul-mod p (Y1 + (p - X1)) (Y2 + (p - X2)))

  B-is : B ≡ ((Y1 + X1) * (Y2 + X2)) % p
  unfolding B mul_f add_f
  B-is = sym (mul-mod p (Y1 + X1) (Y2 + X2))

  expand : (U1 U2 : ℕ) → U1 + X1 ≡ Y1 + p → U2 + X2 ≡ Y2 + p
      → U1 * U2 + X1 * Y2 + X2 * Y1 + p * (X1 + X2) ≡ Y1 * Y2 + X1 * X2 + p * (Y1 + Y2 + p)
  expand U1 U2 e f =
      let a : (U1 + X1) * U2 ≡ (Y1 + p) * U2 = ap (λ n. n * U2) e in
      let b : (Y1 + p) * (U2 + X2) ≡ (Y1 + p) * (Y2 + p) = ap (λ n. (Y1 + p) * n) f in
      let c : X1 * (U2 + X2) ≡ X1 * (Y2 + p) = ap (λ n. X1 * n) f in
      omega arith

  expanded : (Y1 + (p - X1)) * (Y2 + (p - X2)) + X1 * Y2 + X2 * Y1 + p * (X1 + X2) ≡ Y1 * Y2 + X1 * X2 + p *
      (Y1 + Y2 + p)
  expanded = expand (Y1 + (p - X1)) (Y2 + (p - X2)) (omega arith) (omega arith)

  -- E = B - A
  E-is : sub_f B A ≡ (2 * (X1 * Y2 + X2 * Y1)) % p
  E-is =
      let U = (Y1 + (p - X1)) * (Y2 + (p - X2)) in
      let e : 2 * (X1 * Y2 + X2 * Y1) + U + p * (X1 + X2) ≡ (Y1 + X1) * (Y2 + X2) + p * (Y1 + Y2 + p) =
      omega (arith, expanded) in
      let lt : A < p = rw A-is (mod-lt U p-pos) in
      difference B A (2 * (X1 * Y2 + X2 * Y1)) (omega arith)
      (add_cong p (2 * (X1 * Y2 + X2 * Y1)) A (2 * (X1 * Y2 + X2 * Y1)) U refl (ap (λ n. n % p) A-is ∙ mod-mod U p)
      ∙ apart p _ _ (X1 + X2) (Y1 + Y2 + p) e ∙ sym (ap (λ n. n % p) B-is ∙ mod-mod ((Y1 + X1) * (Y2 + X2)) p))

  -- H = B + A
  H-is : add_f B A ≡ (2 * (Y1 * Y2 + X1 * X2)) % p
  unfolding add_f
  H-is =
      let U = (Y1 + (p - X1)) * (Y2 + (p - X2)) in
      let W = (Y1 + X1) * (Y2 + X2) in
      let e : W + U + p * (X1 + X2) ≡ 2 * (Y1 * Y2 + X1 * X2) + p * (Y1 + Y2 + p) = omega (arith, expanded) in
      add_cong p B A W U (ap (λ n. n % p) B-is ∙ mod-mod W p) (ap (λ n. n % p) A-is ∙ mod-mod U p)
      ∙ apart p _ _ (X1 + X2) (Y1 + Y2 + p) e

C-is : (T1 T2 : ℕ) → mul_f (mul_f T1 two_d) T2 ≡ (2 * (d * (T1 * T2))) % p
unfolding mul_f two_d
C-is T1 T2 =
    let e : T1 * (2 * d) * T2 ≡ 2 * (d * (T1 * T2)) = omega arith in
    in_left (T1 * (2 * d % p)) T2 ∙ sym (in_left (T1 * (2 * d % p)) T2) ∙ ap (λ n. n * T2 % p) (in_right T1 (2 * d))
    ∙ in_left (T1 * (2 * d)) T2 ∙ ap (λ n. n % p) e

D-is : (Z1 Z2 : ℕ) → mul_f (add_f Z1 Z1) Z2 ≡ (2 * (Z1 * Z2)) % p
unfolding mul_f add_f
D-is Z1 Z2 =
    let e : (Z1 + Z1) * Z2 ≡ 2 * (Z1 * Z2) = omega arith in
    in_left (Z1 + Z1) Z2 ∙ ap (λ n. n % p) e

sum-in : (x y : ℕ) → add_f (x % p) (y % p) ≡ (x + y) % p
unfolding add_f
sum-in x y = add-in x y

-- (E F) G = (F G) E
turn : (E F G : ℕ) → mul_f (mul_f E F) G ≡ mul_f (mul_f F G) E
unfolding mul_f
turn E F G =
    let e : E * F * G ≡ F * G * E = omega arith in
    in_left (E * F) G ∙ ap (λ n. n % p) e ∙ sym (in_left (F * G) E)

turn2 : (E F G : ℕ) → mul_f (mul_f G E) F ≡ mul_f (mul_f F G) E
unfolding mul_f
turn2 E F G =
    let e : G * E * F ≡ F * G * E = omega arith in
    in_left (G * E) F ∙ ap (λ n. n % p) e ∙ sym (in_left (F * G) E)

-- T3 Z3 = X3 Y3
turn3 : (E F G K : ℕ) → mul_f (mul_f E K) (mul_f F G) ≡ mul_f (mul_f E F) (mul_f G K)
unfolding mul_f
turn3 E F G K =
    let e : E * K * (F * G) ≡ E * F * (G * K) = omega arith in
    sym (mul-mod p (E * K) (F * G)) ∙ ap (λ n. n % p) e ∙ mul-mod p (E * F) (G * K)

-- x3 = (x1 y2 + x2 y1) / (1 + d x1 x2 y1 y2), where x = X/Z, y = Y/Z, T = X Y / Z: X3/Z3 = (X1 Y2 + X2 Y1) / (Z1 Z2 +
-- d T1 T2), both twice
add-x : (P Q : Pt) → P.X ≤ p → Q.X ≤ p
    → mul_f (point_add P Q).X ((2 * (P.Z * Q.Z) + 2 * (d * (P.T * Q.T))) % p) ≡ mul_f (point_add P Q).Z
    ((2 * (P.X * Q.Y + Q.X * P.Y)) % p)
unfolding point_add A B
add-x P Q hp hq =
    let g : add_f (mul_f (add_f P.Z P.Z) Q.Z) (mul_f (mul_f P.T two_d) Q.T) ≡
    (2 * (P.Z * Q.Z) + 2 * (d * (P.T * Q.T))) % p =
    rw (D-is, C-is) (sum-in (2 * (P.Z * Q.Z)) (2 * (d * (P.T * Q.T)))) in
    rw (← g, ← E-is P.X P.Y Q.X Q.Y hp hq) (turn _ _ _)

-- y3 = (y1 y2 + x1 x2) / (1 - d x1 x2 y1 y2)
add-y : (P Q : Pt) → P.X ≤ p → Q.X ≤ p
    → mul_f (point_add P Q).Y (sub_f ((2 * (P.Z * Q.Z)) % p) ((2 * (d * (P.T * Q.T))) % p)) ≡ mul_f (point_add P Q).Z
    ((2 * (P.Y * Q.Y + P.X * Q.X)) % p)
unfolding point_add A B
add-y P Q hp hq = rw (← D-is P.Z Q.Z, ← C-is P.T Q.T, ← H-is P.X P.Y Q.X Q.Y hp hq)
    (turn2 _ _ _)

-- T3 = X3 Y3 / Z3
add-t : (P Q : Pt) → Extended (point_add P Q)
unfolding point_add mul_f
add-t P Q = turn3 _ _ _ _

square-is : (x y : ℕ) → mul_f (add_f x y) (add_f x y) % p ≡ ((x + y) * (x + y)) % p
unfolding mul_f add_f
square-is x y = mod-mod ((x + y) % p * ((x + y) % p)) p ∙ sym (mul-mod p (x + y) (x + y))

squares-is : (x y : ℕ) → add_f (mul_f x x) (mul_f y y) % p ≡ (x * x + y * y) % p
unfolding mul_f add_f
squares-is x y = mod-mod (x * x % p + y * y % p) p ∙ add-in (x * x) (y * y)

-- a doubling: E = -2 X Y
twice-is : (x y : ℕ) → sub_f (add_f (mul_f x x) (mul_f y y)) (mul_f (add_f x y) (add_f x y)) ≡ sub_f 0 ((2 * (x * y)) % p)
twice-is x y =
    let w : ℕ = (2 * (x * y)) % p in
    let q : ℕ = 2 * (x * y) / p in
    let e = div-add-mod (2 * (x * y)) p in
    let lt : w < p = mod-lt (2 * (x * y)) p-pos in
    let f : p - w + (x + y) * (x + y) + p * 0 ≡ x * x + y * y + p * (1 + q) = omega arith in
    difference (add_f (mul_f x x) (mul_f y y)) (mul_f (add_f x y) (add_f x y)) (p - w) (mul_most (add_f x y) (add_f x y))
    (add_cong p (p - w) (mul_f (add_f x y) (add_f x y)) (p - w) ((x + y) * (x + y)) refl (square-is x y)
    ∙ apart p _ _ 0 (1 + q) f ∙ sym (squares-is x y))
    ∙ sym (zero_minus w)

-- X3/Z3 = 2 X Y / (Y^2 - X^2)
double-x : (P : Pt)
    → mul_f (point_double P).X (sub_f (mul_f P.X P.X) (mul_f P.Y P.Y)) ≡ mul_f (point_double P).Z
    (sub_f 0 ((2 * (P.X * P.Y)) % p))
unfolding point_double
double-x P = rw (← twice-is P.X P.Y) (turn _ _ _)

-- Y3/Z3 = (X^2 + Y^2) / (2 Z^2 + X^2 - Y^2)
double-y : (P : Pt)
    → mul_f (point_double P).Y
    (add_f (add_f (mul_f P.Z P.Z) (mul_f P.Z P.Z)) (sub_f (mul_f P.X P.X) (mul_f P.Y P.Y)))
    ≡ mul_f (point_double P).Z (add_f (mul_f P.X P.X) (mul_f P.Y P.Y))
unfolding point_double
double-y P = turn2 _ _ _

double-t : (P : Pt) → Extended (point_double P)
unfolding point_double mul_f
double-t P = turn3 _ _ _ _

sum_back : (x y : ℕ) → (sub_f (x % p) (y % p) + y) % p ≡ x % p
sum_back x y =
    let z : ℕ = sub_f (x % p) (y % p) in
    add_cong p z y z (y % p) refl (sym (mod-mod y p)) ∙ minus_plus (x % p) (y % p) (omega (arith, mod-lt y p-pos))
    ∙ mod-mod x p

-- the same with T Z = X Y put in
times : (a g k h : ℕ) → (g * k) % p ≡ h % p → mul_f a (h % p) ≡ (mul_f a (g % p) * k) % p
unfolding mul_f
times a g k h e =
    let f : a * (g * k) ≡ a * g * k = omega arith in
    in_right a h ∙ mul-cong p a h a (g * k) refl (sym e) ∙ ap (λ n. n % p) f ∙ sym (in_left (a * g) k)
    ∙ ap (λ n. (n * k) % p) (sym (in_right a g))

scaled : (a b g e k g' e' : ℕ) → mul_f a (g % p) ≡ mul_f b (e % p) → (g * k) % p ≡ g' % p → (e * k) % p ≡ e' % p
    → mul_f a (g' % p) ≡ mul_f b (e' % p)
scaled a b g e k g' e' h hg he = times a g k g' hg ∙ ap (λ n. (n * k) % p) h ∙ sym (times b e k e' he)

module _ (P Q : Pt) (eP : Extended P) (eQ : Extended Q) where
  -- d T1 T2 Z1 Z2 = d x1 x2 y1 y2
  product_is : (2 * (d * (P.T * Q.T)) * (P.Z * Q.Z)) % p ≡ (2 * (d * (P.X * Q.X * (P.Y * Q.Y)))) % p
  product_is =
      let e : 2 * (d * (P.T * Q.T)) * (P.Z * Q.Z) ≡ 2 * d * (P.T * P.Z * (Q.T * Q.Z)) = omega arith in
      let f : 2 * d * (P.X * P.Y * (Q.X * Q.Y)) ≡ 2 * (d * (P.X * Q.X * (P.Y * Q.Y))) = omega arith in
      ap (λ n. n % p) e
      ∙ mul-cong p (2 * d) (P.T * P.Z * (Q.T * Q.Z)) (2 * d) (P.X * P.Y * (Q.X * Q.Y)) refl
      (mul-cong p (P.T * P.Z) (Q.T * Q.Z) (P.X * P.Y) (Q.X * Q.Y) eP eQ) ∙ ap (λ n. n % p) f

  -- x3 (1 + d x1 x2 y1 y2) = x1 y2 + x2 y1, times 2 Z1^2 Z2^2 Z3
  affine-x : P.X ≤ p → Q.X ≤ p
      → mul_f (point_add P Q).X ((2 * (P.Z * Q.Z * (P.Z * Q.Z)) + 2 * (d * (P.X * Q.X * (P.Y * Q.Y)))) % p)
      ≡ mul_f (point_add P Q).Z ((2 * (P.Z * Q.Z * (P.X * Q.Y + Q.X * P.Y))) % p)
  affine-x hp hq =
      let k : ℕ = P.Z * Q.Z in
      let u : ℕ = 2 * (d * (P.T * Q.T)) in
      let a : (2 * k + u) * k ≡ 2 * (k * k) + u * k = omega arith in
      let b : 2 * (P.X * Q.Y + Q.X * P.Y) * k ≡ 2 * (k * (P.X * Q.Y + Q.X * P.Y)) = omega arith in
      scaled (point_add P Q).X (point_add P Q).Z (2 * k + u) (2 * (P.X * Q.Y + Q.X * P.Y)) k _ _ (add-x P Q hp hq)
      (ap (λ n. n % p) a
      ∙ add_cong p (2 * (k * k)) (u * k) (2 * (k * k)) (2 * (d * (P.X * Q.X * (P.Y * Q.Y)))) refl product_is)
      (ap (λ n. n % p) b)

  -- y3 (1 - d x1 x2 y1 y2) = y1 y2 + x1 x2, times 2 Z1^2 Z2^2 Z3
  affine-y : P.X ≤ p → Q.X ≤ p
      → mul_f (point_add P Q).Y
      (sub_f ((2 * (P.Z * Q.Z * (P.Z * Q.Z))) % p) ((2 * (d * (P.X * Q.X * (P.Y * Q.Y)))) % p)) ≡ mul_f
      (point_add P Q).Z ((2 * (P.Z * Q.Z * (P.Y * Q.Y + P.X * Q.X))) % p)
  affine-y hp hq =
      let k : ℕ = P.Z * Q.Z in
      let u : ℕ = 2 * (d * (P.T * Q.T)) in
      let w : ℕ = 2 * (d * (P.X * Q.X * (P.Y * Q.Y))) in
      let f : ℕ = sub_f ((2 * k) % p) (u % p) in
      let b : 2 * (P.Y * Q.Y + P.X * Q.X) * k ≡ 2 * (k * (P.Y * Q.Y + P.X * Q.X)) = omega arith in
      let c : f * k + u * k ≡ (f + u) * k = omega arith in
      let e : 2 * k * k ≡ 2 * (k * k) = omega arith in
      let s : (f + u) % p ≡ (2 * k) % p = sum_back (2 * k) u in
      let g : sub_f ((2 * (k * k)) % p) (w % p) ≡ (f * k) % p =
      difference ((2 * (k * k)) % p) (w % p) (f * k) (omega (arith, mod-lt w p-pos))
      (add_cong p (f * k) (w % p) (f * k) (u * k) refl (mod-mod w p ∙ sym product_is) ∙ ap (λ n. n % p) c
      ∙ mul-cong p (f + u) k (2 * k) k s refl ∙ ap (λ n. n % p) e ∙ sym (mod-mod (2 * (k * k)) p)) in
      let h : mul_f (point_add P Q).Y (f % p) ≡ mul_f (point_add P Q).Z ((2 * (P.Y * Q.Y + P.X * Q.X)) % p) =
      ap (mul_f (point_add P Q).Y) (sub-rest ((2 * k) % p) (u % p)) ∙ add-y P Q hp hq in
      rw g (scaled (point_add P Q).Y (point_add P Q).Z f (2 * (P.Y * Q.Y + P.X * Q.X)) k (f * k) _ h refl
      (ap (λ n. n % p) b))

-- ---- the theorems

-- 2 can be divided by: half of p + 1 times it is 1
unfoldable half : ℕ
half = (p + 1) / 2

half_is : half * 2 ≡ p + 1
unfolding half p
half_is = refl

halved : (a b : ℕ) → Equal (2 * a) (2 * b) → Equal a b
halved a b e = sym (once a) ∙ mul-cong p half (2 * a) half (2 * b) refl e ∙ once b
  where
    once : (n : ℕ) → Equal (half * (2 * n)) n
    once n =
        let s : half * (2 * n) ≡ n + p * n = omega (arith, ap (λ k. k * n) half_is) in
        ap (λ k. k % p) s ∙ add-mul-mod_self_left n p n

scaled-by : (c a b : ℕ) → Equal a b → Equal (c * a) (c * b)
scaled-by c a b e = mul-cong p c a c b refl e

-- products of elements, as products of numbers
product-of : (a b : ℕ) → mul_f a (b % p) % p ≡ (a * b) % p
product-of a b = mul-rest a (b % p) ∙ in_right a b

-- Addition is the affine law.
pub add-is-sum : (P Q : Pt) → P.X ≤ p → Q.X ≤ p → Extended P → Extended Q → IsSum P Q (point_add P Q)
add-is-sum P Q hp hq eP eQ =
    let R : Pt = point_add P Q in
    let k : ℕ = P.Z * Q.Z in
    let D : ℕ = d * (P.X * Q.X * (P.Y * Q.Y)) in
    let S : ℕ = k * (P.X * Q.Y + Q.X * P.Y) in
    let U : ℕ = k * (P.Y * Q.Y + P.X * Q.X) in
    let x : Equal (R.X * (2 * (k * k) + 2 * D)) (R.Z * (2 * S)) =
    (sym (product-of R.X (2 * (k * k) + 2 * D))
    ∙ ap (λ n. n % p) (affine-x P Q eP eQ hp hq)
    ∙ product-of R.Z (2 * S)) in
    let f : ℕ = sub_f ((2 * (k * k)) % p) ((2 * D) % p) in
    let y : Equal (R.Y * f) (R.Z * (2 * U)) =
    (sym (mul-rest R.Y f) ∙ ap (λ n. n % p) (affine-y P Q eP eQ hp hq) ∙ product-of R.Z (2 * U)) in
    let x2 : R.X * (2 * (k * k) + 2 * D) ≡ 2 * (R.X * (k * k + D)) = omega arith in
    let s2 : R.Z * (2 * S) ≡ 2 * (R.Z * S) = omega arith in
    let y2 : R.Y * (f + 2 * D) ≡ R.Y * (2 * D) + R.Y * f = omega arith in
    let l2 : R.Y * (2 * (k * k)) ≡ 2 * (R.Y * (k * k)) = omega arith in
    let r2 : R.Y * (2 * D) + R.Z * (2 * U) ≡ 2 * (R.Y * D + R.Z * U) = omega arith in
    let y3 : Equal (R.Y * (2 * (k * k))) (R.Y * (2 * D) + R.Z * (2 * U)) =
    (sym (scaled-by R.Y (f + 2 * D) (2 * (k * k)) (sum_back (2 * (k * k)) (2 * D)))
    ∙ ap (λ n. n % p) y2
    ∙ add_cong p (R.Y * (2 * D)) (R.Y * f) (R.Y * (2 * D)) (R.Z * (2 * U)) refl y) in
    record {
      x = halved (R.X * (k * k + D)) (R.Z * S) (rw (x2, s2) at x);
      y = halved (R.Y * (k * k)) (R.Y * D + R.Z * U) (rw (l2, r2) at y3);
      t = add-t P Q;
    }

-- Doubling is the same law with P for both points, where P is on the curve.
module _ (P : Pt) (on : OnCurveZ P) where
  R : Pt
  R = point_double P

  XX : ℕ
  XX = P.X * P.X

  YY : ℕ
  YY = P.Y * P.Y

  ZZ : ℕ
  ZZ = P.Z * P.Z

  D : ℕ
  D = d * (P.X * P.X * (P.Y * P.Y))

  -- X^2 - Y^2
  G : ℕ
  G = sub_f (mul_f P.X P.X) (mul_f P.Y P.Y)

  G-is : Equal (G + YY) XX
  unfolding G XX YY
  G-is =
      add_cong p (sub_f (mul_f P.X P.X) (mul_f P.Y P.Y)) (P.Y * P.Y)
      (sub_f (mul_f P.X P.X) (mul_f P.Y P.Y)) (mul_f P.Y P.Y) refl (sym (mul-rest P.Y P.Y))
      ∙ minus_plus (mul_f P.X P.X) (mul_f P.Y P.Y) (mul_most P.Y P.Y)
      ∙ mul-rest P.X P.X

  on-curve : Equal (ZZ * YY) (ZZ * XX + (ZZ * ZZ + D))
  unfolding XX YY ZZ D
  on-curve = on

  -- Z^2 (X^2 - Y^2) + Z^4 + d X^2 Y^2 = 0
  G-curve : Equal (ZZ * G + (ZZ * ZZ + D)) 0
  G-curve =
      let a : ZZ * G + (ZZ * ZZ + D) + ZZ * XX ≡ ZZ * G + (ZZ * XX + (ZZ * ZZ + D)) = omega arith in
      let b : ZZ * G + ZZ * YY ≡ ZZ * (G + YY) = omega arith in
      let c : ZZ * XX ≡ 0 + ZZ * XX = omega arith in
      cancel p p-pos (ZZ * G + (ZZ * ZZ + D)) 0 (ZZ * XX)
      (ap (λ n. n % p) a
      ∙ add_cong p (ZZ * G) (ZZ * XX + (ZZ * ZZ + D)) (ZZ * G) (ZZ * YY) refl (sym on-curve)
      ∙ ap (λ n. n % p) b
      ∙ scaled-by ZZ (G + YY) XX G-is
      ∙ ap (λ n. n % p) c)

  -- -2 X Y
  M : ℕ
  M = sub_f 0 ((2 * (P.X * P.Y)) % p)

  M-is : Equal (M + 2 * (P.X * P.Y)) 0
  unfolding M
  M-is =
      let w : ℕ = 2 * (P.X * P.Y) in
      add_cong p (sub_f 0 (w % p)) w (sub_f 0 (w % p)) (w % p) refl (sym (mod-mod w p))
      ∙ minus_plus 0 (w % p) (omega (arith, mod-lt w p-pos))

  double-first : Equal (R.X * G) (R.Z * M)
  unfolding R G M
  double-first =
      sym (mul-rest (point_double P).X (sub_f (mul_f P.X P.X) (mul_f P.Y P.Y)))
      ∙ ap (λ n. n % p) (double-x P)
      ∙ mul-rest (point_double P).Z (sub_f 0 ((2 * (P.X * P.Y)) % p))

  -- 2 Z^2 + X^2 - Y^2
  F : ℕ
  F = add_f (add_f (mul_f P.Z P.Z) (mul_f P.Z P.Z)) (sub_f (mul_f P.X P.X) (mul_f P.Y P.Y))

  F-is : Equal F (2 * ZZ + G)
  unfolding F ZZ G
  F-is =
      let z : ℕ = mul_f P.Z P.Z in
      let g : ℕ = sub_f (mul_f P.X P.X) (mul_f P.Y P.Y) in
      let two : P.Z * P.Z + P.Z * P.Z ≡ 2 * (P.Z * P.Z) = omega arith in
      add-rest (add_f z z) g
      ∙ add_cong p (add_f z z) g (2 * (P.Z * P.Z)) g
      (add-rest z z
      ∙ add_cong p z z (P.Z * P.Z) (P.Z * P.Z) (mul-rest P.Z P.Z) (mul-rest P.Z P.Z)
      ∙ ap (λ n. n % p) two)
      refl

  double-second : Equal (R.Y * F) (R.Z * (YY + XX))
  unfolding R F XX YY
  double-second =
      let h : P.X * P.X + P.Y * P.Y ≡ P.Y * P.Y + P.X * P.X = omega arith in
      sym
      (mul-rest (point_double P).Y
      (add_f (add_f (mul_f P.Z P.Z) (mul_f P.Z P.Z)) (sub_f (mul_f P.X P.X) (mul_f P.Y P.Y))))
      ∙ ap (λ n. n % p) (double-y P)
      ∙ mul-rest (point_double P).Z (add_f (mul_f P.X P.X) (mul_f P.Y P.Y))
      ∙ scaled-by (point_double P).Z (add_f (mul_f P.X P.X) (mul_f P.Y P.Y)) (P.Y * P.Y + P.X * P.X)
      (squares-is P.X P.Y ∙ ap (λ n. n % p) h)

  sum-x : Equal (R.X * (ZZ * ZZ + D)) (R.Z * (ZZ * (P.X * P.Y + P.X * P.Y)))
  sum-x =
      let xy : ℕ = P.X * P.Y in
      let c : ℕ = ZZ * (R.Z * M) in
      let a : R.X * (ZZ * ZZ + D) + ZZ * (R.X * G) ≡ R.X * (ZZ * G + (ZZ * ZZ + D)) = omega arith in
      let z : R.X * 0 ≡ R.Z * ZZ * 0 = omega arith in
      let b : R.Z * ZZ * (M + 2 * xy) ≡ R.Z * (ZZ * (xy + xy)) + c = omega arith in
      cancel p p-pos (R.X * (ZZ * ZZ + D)) (R.Z * (ZZ * (xy + xy))) c
      (add_cong p (R.X * (ZZ * ZZ + D)) c (R.X * (ZZ * ZZ + D)) (ZZ * (R.X * G)) refl
      (sym (scaled-by ZZ (R.X * G) (R.Z * M) double-first))
      ∙ ap (λ n. n % p) a
      ∙ scaled-by R.X (ZZ * G + (ZZ * ZZ + D)) 0 G-curve
      ∙ ap (λ n. n % p) z
      ∙ sym (scaled-by (R.Z * ZZ) (M + 2 * xy) 0 M-is)
      ∙ ap (λ n. n % p) b)

  -- Z^2 F + d X^2 Y^2 = Z^4
  F-curve : Equal (ZZ * F + D) (ZZ * ZZ)
  F-curve =
      let a : ZZ * (2 * ZZ + G) + D ≡ ZZ * ZZ + (ZZ * G + (ZZ * ZZ + D)) = omega arith in
      let b : ZZ * ZZ + 0 ≡ ZZ * ZZ = omega arith in
      add_cong p (ZZ * F) D (ZZ * (2 * ZZ + G)) D (scaled-by ZZ F (2 * ZZ + G) F-is) refl
      ∙ ap (λ n. n % p) a
      ∙ add_cong p (ZZ * ZZ) (ZZ * G + (ZZ * ZZ + D)) (ZZ * ZZ) 0 refl G-curve
      ∙ ap (λ n. n % p) b

  sum-y : Equal (R.Y * (ZZ * ZZ)) (R.Y * D + R.Z * (ZZ * (YY + XX)))
  sum-y =
      let a : R.Y * (ZZ * F + D) ≡ R.Y * D + ZZ * (R.Y * F) = omega arith in
      let b : R.Y * D + ZZ * (R.Z * (YY + XX)) ≡ R.Y * D + R.Z * (ZZ * (YY + XX)) = omega arith in
      sym (scaled-by R.Y (ZZ * F + D) (ZZ * ZZ) F-curve)
      ∙ ap (λ n. n % p) a
      ∙ add_cong p (R.Y * D) (ZZ * (R.Y * F)) (R.Y * D) (ZZ * (R.Z * (YY + XX))) refl
      (scaled-by ZZ (R.Y * F) (R.Z * (YY + XX)) double-second)
      ∙ ap (λ n. n % p) b

  pub double-is-sum : IsSum P P (point_double P)
  unfolding R XX YY ZZ D
  double-is-sum = record { x = sum-x; y = sum-y; t = double-t P }

-- A point (x, y) on the curve, with Z = 1, is one of which these theorems speak.
module _ (x y : ℕ) where
  pub affine-extended : Extended (affine x y)
  affine-extended =
      let e : mul_f x y * 1 ≡ mul_f x y = omega arith in
      ap (λ n. n % p) e ∙ mul-rest x y

  pub affine-on-curve : OnCurve x y → OnCurveZ (affine x y)
  affine-on-curve e =
      let a : ℕ = mul_f x x in
      let b : ℕ = mul_f y y in
      let l : 1 * 1 * (y * y) ≡ y * y = omega arith in
      let s : 1 + d * (x * x * (y * y)) + x * x ≡ 1 * 1 * (x * x) + (1 * 1 * (1 * 1) + d * (x * x * (y * y))) =
      omega arith in
      ap (λ n. n % p) l
      ∙ sym (mul-rest y y)
      ∙ sym (minus_plus b a (mul_most x x))
      ∙ ap (λ n. (n + a) % p) e
      ∙ add_cong p (add_f 1 (mul_f d (mul_f a b))) a (1 + d * (x * x * (y * y))) (x * x)
      (add-rest 1 (mul_f d (mul_f a b))
      ∙ add_cong p 1 (mul_f d (mul_f a b)) 1 (d * (x * x * (y * y))) refl
      (mul-rest d (mul_f a b)
      ∙ mul-cong p d (mul_f a b) d (x * x * (y * y)) refl
      (mul-rest a b ∙ mul-cong p a b (x * x) (y * y) (mul-rest x x) (mul-rest y y))))
      (mul-rest x x)
      ∙ ap (λ n. n % p) s
