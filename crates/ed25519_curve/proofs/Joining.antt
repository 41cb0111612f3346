-- Rows: the opposite of one, and that an addition of a row is the addition of its point.
use Prim.Native.Nat.{ℕ, ◌+◌, ◌*◌, ◌%◌, ◌≤◌}
use mathlib.Core.Path.{◌≡◌, refl, sym, ap, ◌∙◌}
use mathlib.Core.List.{[], ◌∷◌}
use native.Mathlib.Omega.{arith}
use Rattle.digits.specs.Digits.{value}
use Rattle.digits.proofs.Mods.{add_cong, mul-cong}
use Rattle.ed25519_field.specs.Field.{p, add_f, sub_f, mul_f}
use Rattle.ed25519_field.specs.Limbs.{num, Limbs}
use Rattle.ed25519_field.proofs.Elements.{in_left, in_right, mul-rest, mul_most, sub-below, difference, minus_plus}
use Rattle.ed25519_curve.specs.declared.Addend.{Addend}
use Rattle.ed25519_curve.specs.declared.Point.{Point}
use Rattle.ed25519_curve.specs.Points.{Pt, two_d, point_add}
use Rattle.ed25519_curve.specs.Coords.{pt_of, sum_with, Cached, opposite_of, Opposed, Even}

-- y and x and -x are y
gone : (x y : ℕ) → x ≤ p → (y + (sub_f 0 x + x)) % p ≡ y % p
gone x y h =
    let e : y + 0 ≡ y = omega arith in
    add_cong p y (sub_f 0 x + x) y 0 refl (minus_plus 0 x h) ∙ ap (λ n. n % p) e

less-minus : (x y : ℕ) → x ≤ p → add_f y x ≡ sub_f y (sub_f 0 x)
unfolding add_f
less-minus x y h =
    let e : y + x + sub_f 0 x ≡ y + (sub_f 0 x + x) = omega arith in
    sym (difference y (sub_f 0 x) (y + x) (omega (arith, sub-below 0 x)) (ap (λ n. n % p) e ∙ gone x y h))

plus-minus : (x y : ℕ) → x ≤ p → sub_f y x ≡ add_f y (sub_f 0 x)
unfolding add_f
plus-minus x y h =
    let e : y + sub_f 0 x + x ≡ y + (sub_f 0 x + x) = omega arith in
    difference y x (y + sub_f 0 x) h (ap (λ n. n % p) e ∙ gone x y h)

times-minus : (x y : ℕ) → x ≤ p → sub_f 0 (mul_f x y) ≡ mul_f (sub_f 0 x) y
unfolding mul_f
times-minus x y h =
    let n : ℕ = sub_f 0 x in
    let e : n * y + x * y ≡ (n + x) * y = omega arith in
    let z : 0 * y ≡ 0 = omega arith in
    difference 0 (x * y % p) (n * y) (mul_most x y)
    (add_cong p (n * y) (x * y % p) (n * y) (x * y) refl (mul-rest x y) ∙ ap (λ k. k % p) e
    ∙ mul-cong p (n + x) y 0 y (minus_plus 0 x h) refl ∙ ap (λ k. k % p) z)

pub opposed : (r s : Addend) → s.minus ≡ r.plus → s.plus ≡ r.minus → s.twice ≡ r.twice
    → num s.scaled ≡ sub_f 0 (num r.scaled) → Limbs 1 s.scaled → Opposed r s
opposed r s em ep et es l = record { even = even; is = is }
  where
    even : Even r → Even s
    even h = record { minus = rw em h.plus; plus = rw ep h.minus; twice = rw et h.twice; scaled = l }

    is : (P : Pt) → P.X ≤ p → P.T ≤ p → Cached P r → Cached (opposite_of P) s
    is P hx ht c = record {
      minus_is = ap num em ∙ c.plus-is ∙ less-minus P.X P.Y hx;
      plus-is = ap num ep ∙ c.minus_is ∙ plus-minus P.X P.Y hx;
      twice-is = ap num et ∙ c.twice-is;
      scaled-is = es ∙ ap (sub_f 0) c.scaled-is ∙ times-minus P.T two_d ht;
      even = even c.even;
    }

swap_mul : (x y z : ℕ) → mul_f x (mul_f y z) ≡ mul_f (mul_f x z) y
unfolding mul_f
swap_mul x y z =
    let e : x * (y * z) ≡ x * z * y = omega arith in
    in_right x (y * z) ∙ ap (λ n. n % p) e ∙ sym (in_left (x * z) y)

swap_add : (x y : ℕ) → mul_f x (add_f y y) ≡ mul_f (add_f x x) y
unfolding mul_f add_f
swap_add x y =
    let e : x * (y + y) ≡ (x + x) * y = omega arith in
    in_right x (y + y) ∙ ap (λ n. n % p) e ∙ sym (in_left (x + x) y)

-- twice a number is the number by the 2 Z of a row with Z = 1
pub twice_two : (x : ℕ) → add_f x x ≡ mul_f x (num (2 ∷ 0 ∷ 0 ∷ 0 ∷ 0 ∷ []))
unfolding mul_f add_f num value p
twice_two x = let e : x + x ≡ x * 2 = omega arith in ap (λ n. n % p) e

pub summed-is : (q : Point) (Q : Pt) (r : Addend) → Cached Q r → sum_with q r ≡ point_add (pt_of q) Q
unfolding point_add
summed-is q Q r h =
    let P : Pt = pt_of q in
    let c : mul_f P.T (num r.scaled) ≡ mul_f (mul_f P.T two_d) Q.T =
    ap (mul_f P.T) h.scaled-is ∙ swap_mul P.T Q.T two_d in
    let e : mul_f P.Z (num r.twice) ≡ mul_f (add_f P.Z P.Z) Q.Z =
    ap (mul_f P.Z) h.twice-is ∙ swap_add P.Z Q.Z in
    rw (h.minus_is, h.plus-is, c, e)
