-- Decoding what a point of the curve is encoded as gives the point back (RFC 8032, 5.1.2 and 5.1.3).
use Prim.Native.Nat.{ℕ, zero, suc, ◌+◌, ◌-◌, ◌*◌, ◌/◌, ◌%◌, ◌^◌, ◌<◌}
use mathlib.Core.Path.{◌≡◌, refl, sym, ap, ◌∙◌}
use mathlib.Core.Bool.{true, false, ◌&&◌}
use mathlib.Core.List.{List, [], append-nil}
use mathlib.Core.Logic.{⊎_elim}
use native.Mathlib.Omega.{arith}
use native.Mathlib.Nat.{mod-lt, mod-eq_of_lt, zero-mod}
use native.Mathlib.Nat.{div-eq_of_lt, add-mul-div_left, add-mul-mod_self_left, lt_trans}
use borrow.Author.Tests.{lt-ltb, eq-eqb, ne_eqb, eqb-false}
use lib.Dec.{eqb, lit<}
use Rattle.laws.specs.Numbers.{le, le_bytes}
use Rattle.laws.proofs.Numbers.{le-le_bytes}
use Rattle.digits.proofs.Mods.{add_cong, mul-cong}
use Rattle.ed25519_field.specs.Field.{p, add_f, sub_f, mul_f}
use Rattle.ed25519_field.proofs.Modulus.{p-pos, p-large, p-odd}
use Rattle.ed25519_field.proofs.Elements.{mul-rest, add-rest, mul-below, sub-below, mul_most, difference, minus_plus}
use Rattle.ed25519_curve.specs.Points.{d, affine}
use Rattle.ed25519_curve.specs.Equation.{OnCurve}
use Rattle.ed25519_point.specs.Decoding.{some, u_of, v_of, y_of, sign_of, root_of, signed_of, recover_x, decode_of}
use Rattle.ed25519_point.specs.Encoding.{encode_of}
use Rattle.ed25519_point.proofs.OnCurve.{root-solves}
use Rattle.ed25519_prime_laws.proofs.Small.{zero-times}
use Rattle.ed25519_prime_laws.proofs.Roots.{root-found, two-roots}

-- ---- the bytes

p-bits : p < 2 ^ 255
unfolding p
p-bits = lit< tt

bytes-are : 2 * 2 ^ 255 ≡ 256 ^ 32
bytes-are = refl

-- y and a bit above it
module _ (h y b : ℕ) (pos : 0 < h) (low : y < h) (bit : b < 2) where
  whole : y + h * b < 2 * h
  whole = pick b bit
    where
      pick : (b : ℕ) → b < 2 → y + h * b < 2 * h
      pick zero l = omega arith
      pick (suc zero) l = omega arith
      pick (suc (suc b)) l = absurd (omega arith)

  rest : (y + h * b) % h ≡ y
  rest = add-mul-mod_self_left y h b ∙ mod-eq_of_lt low

  top : (y + h * b) / h % 2 ≡ b
  top =
      let e : 0 + b ≡ b = omega arith in
      ap (λ (n : ℕ). n % 2) (add-mul-div_left y b pos ∙ ap (λ (n : ℕ). n + b) (div-eq_of_lt low) ∙ e) ∙ mod-eq_of_lt bit

module _ (x y : ℕ) (y-below : y < p) where
  number : le 32 (encode_of x y) 0 ≡ y + 2 ^ 255 * (x % 2)
  unfolding encode_of
  number =
      let n : ℕ = y + 2 ^ 255 * (x % 2) in
      let low : n < 256 ^ 32 =
      rw bytes-are at (whole (2 ^ 255) y (x % 2) (lit< tt) (lt_trans y-below p-bits) (mod-lt x (lit< tt))) in
      ap (λ (s : List ℕ). le 32 s 0) (sym (append-nil (le_bytes 32 n))) ∙ le-le_bytes 32 n [] low

  y-is : y_of (encode_of x y) ≡ y
  y-is =
      ap (λ (n : ℕ). n % 2 ^ 255) number
      ∙ rest (2 ^ 255) y (x % 2) (lit< tt) (lt_trans y-below p-bits) (mod-lt x (lit< tt))

  sign-is : sign_of (encode_of x y) ≡ x % 2
  sign-is =
      ap (λ (n : ℕ). n / 2 ^ 255 % 2) number
      ∙ top (2 ^ 255) y (x % 2) (lit< tt) (lt_trans y-below p-bits) (mod-lt x (lit< tt))

-- ---- the sign

module _ (x : ℕ) (x_below : x < p) where
  not-minus-zero : (eqb x 0 && eqb (x % 2) 1) ≡ false
  not-minus-zero = pick x
    where
      pick : (x : ℕ) → (eqb x 0 && eqb (x % 2) 1) ≡ false
      pick zero = refl
      pick (suc x) = rw (ne_eqb (suc x) 0 (λ (e : suc x ≡ 0). omega arith))

  -- the root x itself
  sign_same : signed_of (x % 2) x ≡ some x
  unfolding signed_of
  sign_same = rw (not-minus-zero, eq-eqb (x % 2) (x % 2) refl)

  -- the other root
  sign-other : (r : ℕ) → r < p → r + x ≡ p → signed_of (x % 2) r ≡ some x
  unfolding signed_of
  sign-other r hr e =
      let odd = p-odd in
      let positive : r ≡ 0 → ⊥ = λ (z : r ≡ 0). omega arith in
      let differ : x % 2 ≡ r % 2 → ⊥ = λ (z : x % 2 ≡ r % 2). parity r x p e z odd in
      let back : p - r ≡ x = omega arith in
      rw (ne_eqb r 0 positive, ne_eqb (x % 2) (r % 2) differ) (ap some back)
    where
      parity : (r x n : ℕ) → r + x ≡ n → x % 2 ≡ r % 2 → n % 2 ≡ 1 → ⊥
      parity r x n e z odd = omega arith

-- ---- the point

-- d + 1 is not 0
d-plus-one : add_f (mul_f d 1) 1 ≡ 0 → ⊥
unfolding p d add_f mul_f
d-plus-one e = eqb-false (add_f (mul_f d 1) 1) 0 refl e

add-below : (m n : ℕ) → add_f m n < p
unfolding add_f
add-below m n = mod-lt (m + n) p-pos

module _ (x y : ℕ) (x_below : x < p) (y-below : y < p) (on : OnCurve x y) where
  u : ℕ
  u = u_of y

  v : ℕ
  v = v_of y

  -- v x^2 = u
  equation : (v_of y * mul_f x x) % p ≡ u_of y
  equation =
      let a : ℕ = mul_f x x in
      let b : ℕ = mul_f y y in
      let v-is : v_of y % p ≡ (d * b + 1) % p =
      add-rest (mul_f d b) 1 ∙ add_cong p (mul_f d b) 1 (d * b) 1 (mul-rest d b) refl in
      let s : (d * b + 1) * a + 1 ≡ 1 + d * (a * b) + a = omega arith in
      let on-is : (1 + d * (a * b)) % p ≡ sub_f b a % p =
      sym
      (ap (λ (n : ℕ). n % p) on
      ∙ add-rest 1 (mul_f d (mul_f a b))
      ∙ add_cong p 1 (mul_f d (mul_f a b)) 1 (d * (a * b)) refl
      (mul-rest d (mul_f a b) ∙ mul-cong p d (mul_f a b) d (a * b) refl (mul-rest a b))) in
      sym
      (difference b 1 (v_of y * a) (omega (arith, p-large))
      (add_cong p (v_of y * a) 1 ((d * b + 1) * a) 1 (mul-cong p (v_of y) a (d * b + 1) a v-is refl) refl
      ∙ ap (λ (n : ℕ). n % p) s
      ∙ add_cong p (1 + d * (a * b)) a (sub_f b a) a on-is refl
      ∙ minus_plus b a (mul_most x x)))

  solves : (v * (x * x)) % p ≡ u
  unfolding u v
  solves = sym (mul-cong p (v_of y) (mul_f x x) (v_of y) (x * x) refl (mul-rest x x)) ∙ equation

  -- were v 0, u would be, and y^2 = 1 and v = d + 1
  v-other : v % p ≡ 0 → ⊥
  unfolding u v
  v-other z =
      let b : ℕ = mul_f y y in
      let u-zero : u_of y ≡ 0 =
      (sym solves
      ∙ mul-cong p (v_of y) (x * x) 0 (x * x) (z ∙ sym (zero-mod p)) refl
      ∙ ap (λ (n : ℕ). n % p) (zero-times (x * x))
      ∙ zero-mod p) in
      let one : b ≡ 1 =
      (sym (mod-eq_of_lt (mul-below y y))
      ∙ sym (minus_plus b 1 (omega (arith, p-large)))
      ∙ ap (λ (n : ℕ). (n + 1) % p) u-zero
      ∙ mod-eq_of_lt {n = 1} (omega (arith, p-large))) in
      d-plus-one (ap (λ (n : ℕ). add_f (mul_f d n) 1) (sym one) ∙ sym (mod-eq_of_lt (add-below (mul_f d b) 1)) ∙ z)

  recovered : recover_x y (x % 2) ≡ some x
  unfolding recover_x u v
  recovered =
      let found = root-found u v x (sub-below (mul_f y y) 1) v-other solves in
      let r : ℕ = (root_of u v).x in
      let s = root-solves u v (sub-below (mul_f y y) 1) found in
      let squares : (v * (r * r)) % p ≡ (v * (x * x)) % p =
      (sym (mul-rest v (mul_f r r) ∙ mul-cong p v (mul_f r r) v (r * r) refl (mul-rest r r))
      ∙ ap (λ (n : ℕ). n % p) s.0
      ∙ mod-eq_of_lt (sub-below (mul_f y y) 1)
      ∙ sym solves) in
      rw found
      (⊎_elim (λ (e : r ≡ x). ap (signed_of (x % 2)) e
      ∙ sign_same x x_below) (λ (e : r + x ≡ p). sign-other x x_below r s.1 e)
      (two-roots v r x v-other s.1 x_below squares))

  pub decode-encoded : decode_of (encode_of x y) ≡ record { ok = true; point = affine x y }
  unfolding decode_of
  decode-encoded = rw (y-is x y y-below, sign-is x y y-below, lt-ltb y p y-below, recovered)
