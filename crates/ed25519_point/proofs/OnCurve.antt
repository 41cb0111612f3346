-- A decoded point is on the curve: its coordinates are below p and satisfy -x^2 + y^2 = 1 + d x^2 y^2.
use Prim.Native.Nat.{ℕ, zero, suc, ◌+◌, ◌-◌, ◌*◌, ◌%◌, ◌<◌}
use mathlib.Core.Path.{◌≡◌, refl, sym, ap, ◌∙◌}
use mathlib.Core.Bool.{Bool, true, false, cond, ◌&&◌, true≢false}
use mathlib.Core.List.{List}
use native.Mathlib.Omega.{arith}
use native.Mathlib.Nat.{mod-mod, mod-lt}
use lib.Dec.{eqb, ltb}
use borrow.Author.Tests.{ltb-true, eqb-true, eqb-false}
use Rattle.digits.proofs.Mods.{mul-mod, add_cong, mul-cong}
use Rattle.ed25519_field.specs.Field.{p, add_f, sub_f, mul_f}
use Rattle.ed25519_field.proofs.Modulus.{p-large, p-odd}
use Rattle.ed25519_field.proofs.Elements.{mul-below, mul_most, mul-rest, add-rest, sub-below}
use Rattle.ed25519_field.proofs.Elements.{difference, minus_plus, minus-squared, minus_minus}
use Rattle.ed25519_curve.specs.Points.{d, affine}
use Rattle.ed25519_curve.specs.Equation.{OnCurve}
use Rattle.ed25519_point.proofs.MinusOne.{sqrt-m1-squared}
use Rattle.ed25519_point.proofs.Ways.{minus_is}
use Rattle.ed25519_point.specs.Decoding.{Root, some, none, u_of, v_of}
use Rattle.ed25519_point.specs.Decoding.{sqrt_m1, candidate_of, chosen, root_of, signed_of, recover_x}
use Rattle.ed25519_point.specs.Decoding.{no_point, y_of, sign_of, with_x, decode_of}

-- v (c r)^2 = (v c^2) r^2
regroup : (v c r : ℕ) → mul_f v (mul_f (mul_f c r) (mul_f c r)) ≡ mul_f (mul_f v (mul_f c c)) (mul_f r r)
unfolding mul_f
regroup v c r =
    let e : v * (c * r * (c * r)) ≡ v * (c * c) * (r * r) = omega arith in
    mul-cong p v ((c * r % p * (c * r % p)) % p) v (c * r * (c * r)) refl
    (mod-mod (c * r % p * (c * r % p)) p ∙ sym (mul-mod p (c * r) (c * r)))
    ∙ ap (λ n. n % p) e
    ∙ sym (mul-cong p (v * (c * c % p)) (r * r) (v * (c * c)) (r * r)
    (mul-cong p v (c * c % p) v (c * c) refl (mod-mod (c * c) p)) refl)
    ∙ mul-mod p (v * (c * c % p)) (r * r)

candidate-below : (u v : ℕ) → candidate_of u v < p
unfolding candidate_of
candidate-below u v = mul-below _ _

-- a bit other than x mod 2, where x = 0 with the bit 1 is shut out: x is not 0
positive : (sign x : ℕ) → sign < 2 → (eqb x 0 && eqb sign 1) ≡ false → eqb sign (x % 2) ≡ false → 0 < x
positive sign zero low t g =
    let one : sign ≡ 1 = omega (arith, eqb-false sign 0 g) in
    absurd (true≢false (rw one at t))
positive sign (suc x) low t g = omega arith

module _ (u v : ℕ) where
  -- where r is a number, it is below p and v r^2 = u
  abbrev pub Solves : Root → Type 0
  Solves r = r.ok ≡ true → (mul_f v (mul_f r.x r.x) ≡ u) × (r.x < p)

  -- and its lowest bit is the sign
  abbrev Signed : ℕ → Root → Type 0
  Signed sign r = r.ok ≡ true → ((mul_f v (mul_f r.x r.x) ≡ u) × (r.x < p)) × (r.x % 2 ≡ sign)

  none-solves : Solves none
  none-solves e = absurd (true≢false (sym e))

  pick-solves : (b : Bool) (r s : Root) → (b ≡ true → Solves r) → (b ≡ false → Solves s) → Solves (cond b r s)
  pick-solves true r s f g = f refl
  pick-solves false r s f g = g refl

  chosen-solves : (c : ℕ) → u < p → c < p → Solves (chosen u (mul_f v (mul_f c c)) c)
  chosen-solves c h k =
      let w : ℕ = mul_f v (mul_f c c) in
      pick-solves (eqb w u) (some c) (cond (eqb w (sub_f 0 u)) (some (mul_f c sqrt_m1)) none)
      (λ t e. (eqb-true w u t, k))
      (λ _. pick-solves (eqb w (sub_f 0 u)) (some (mul_f c sqrt_m1)) none
      (λ t e. (minus-root (eqb-true w (sub_f 0 u) t), mul-below c sqrt_m1))
      (λ _. none-solves))
    where
      minus-root : mul_f v (mul_f c c) ≡ sub_f 0 u → mul_f v (mul_f (mul_f c sqrt_m1) (mul_f c sqrt_m1)) ≡ u
      minus-root e =
          regroup v c sqrt_m1 ∙ ap (λ n. mul_f n (mul_f sqrt_m1 sqrt_m1)) e ∙ ap (mul_f (sub_f 0 u)) sqrt-m1-squared
          ∙ minus_minus u h

  pub root-solves : u < p → Solves (root_of u v)
  unfolding root_of
  root-solves h = chosen-solves (candidate_of u v) h (candidate-below u v)

  signed-solves : (sign x : ℕ) → sign < 2 → mul_f v (mul_f x x) ≡ u → x < p → Signed sign (signed_of sign x)
  unfolding signed_of
  signed-solves sign x low h k =
      pick (eqb x 0 && eqb sign 1) none (cond (eqb sign (x % 2)) (some x) (some (p - x))) (λ _. none-signed)
      (λ t. pick (eqb sign (x % 2)) (some x) (some (p - x)) (λ g e. ((h, k), sym (eqb-true sign (x % 2) g)))
      (λ g e. other (positive sign x low t g) (eqb-false sign (x % 2) g)))
    where
      none-signed : Signed sign none
      none-signed e = absurd (true≢false (sym e))

      pick : (b : Bool) (r s : Root) → (b ≡ true → Signed sign r) → (b ≡ false → Signed sign s)
          → Signed sign (cond b r s)
      pick true r s f g = f refl
      pick false r s f g = g refl

      other : 0 < x → (sign ≡ x % 2 → ⊥)
          → ((mul_f v (mul_f (p - x) (p - x)) ≡ u) × (p - x < p)) × ((p - x) % 2 ≡ sign)
      other z g =
          let q : mul_f (p - x) (p - x) ≡ mul_f (sub_f 0 x) (sub_f 0 x) = ap (λ n. mul_f n n) (sym (minus_is x z k)) in
          ((ap (mul_f v) (q ∙ minus-squared x (omega arith)) ∙ h, omega arith), omega (arith, p-odd))

-- the x of a decoded point
recover-solves : (y sign : ℕ) → sign < 2 → Signed (u_of y) (v_of y) sign (recover_x y sign)
unfolding recover_x
recover-solves y sign low = pick (root_of (u_of y) (v_of y)).ok refl
  where
    pick : (b : Bool) → (root_of (u_of y) (v_of y)).ok ≡ b
        → Signed (u_of y) (v_of y) sign (cond b (signed_of sign (root_of (u_of y) (v_of y)).x) none)
    pick true e =
        let s = root-solves (u_of y) (v_of y) (sub-below (mul_f y y) 1) e in
        signed-solves (u_of y) (v_of y) sign (root_of (u_of y) (v_of y)).x low s.0 s.1
    pick false e = λ t. absurd (true≢false (sym t))

-- (d y^2 + 1) x^2 = y^2 - 1 is the curve's equation
equation : (x y : ℕ) → mul_f (v_of y) (mul_f x x) ≡ u_of y → OnCurve x y
unfolding add_f
equation x y e =
    let a : ℕ = mul_f x x in
    let b : ℕ = mul_f y y in
    let c : ℕ = d * (a * b) in
    let s : 1 + c + a ≡ (d * b + 1) * a + 1 = omega arith in
    let z : (1 + c + a) % p ≡ b % p =
    (ap (λ n. n % p) s
    ∙ add_cong p ((d * b + 1) * a) 1 (mul_f (v_of y) a) 1 (sym (scaled d b a)) refl
    ∙ ap (λ n. (n + 1) % p) e
    ∙ minus_plus b 1 (omega (arith, p-large))) in
    difference b a (1 + c) (mul_most x x) z
    ∙ add_cong p 1 c 1 (mul_f d (mul_f a b)) refl (sym (twice d a b))
  where
    scaled : (d b a : ℕ) → mul_f (add_f (mul_f d b) 1) a % p ≡ ((d * b + 1) * a) % p
    scaled d b a =
        mul-rest (add_f (mul_f d b) 1) a
        ∙ mul-cong p (add_f (mul_f d b) 1) a (d * b + 1) a
        (add-rest (mul_f d b) 1 ∙ add_cong p (mul_f d b) 1 (d * b) 1 (mul-rest d b) refl) refl

    twice : (d a b : ℕ) → mul_f d (mul_f a b) % p ≡ (d * (a * b)) % p
    twice d a b = mul-rest d (mul_f a b) ∙ mul-cong p d (mul_f a b) d (a * b) refl (mul-rest a b)

-- ---- the theorem

-- s decodes as the point (x, y), both below p, on the curve, and x has the sign that s gives
pub record Decodes (s : List ℕ) (x y : ℕ) : Type 0 where
  pub is : decode_of s ≡ record { ok = true; point = affine x y }
  pub y-is : y ≡ y_of s
  pub y-below : y < p
  pub x_below : x < p
  pub sign : x % 2 ≡ sign_of s
  pub on-curve : OnCurve x y

opened : (b : Bool) (y x : ℕ) (ok : Bool) → (cond b (with_x y (record { ok = ok; x = x })) no_point).ok ≡ true
    → (b ≡ true) × (ok ≡ true)
    × (cond b (with_x y (record { ok = ok; x = x })) no_point ≡ record { ok = true; point = affine x y })
opened true y x true e = (refl, refl, refl)
opened true y x false e = absurd (true≢false (sym e))
opened false y x ok e = absurd (true≢false (sym e))

-- where decoding does not fail
pub decoded : (s : List ℕ) → (decode_of s).ok ≡ true → Decodes s (recover_x (y_of s) (sign_of s)).x (y_of s)
unfolding decode_of
decoded s ok =
    let y : ℕ = y_of s in
    let r : Root = recover_x y (sign_of s) in
    let o = opened (ltb y p) y r.x r.ok ok in
    let low : sign_of s < 2 = mod-lt _ (omega arith) in
    let solves = recover-solves y (sign_of s) low o.1 in
    record {
      is = o.2;
      y-is = refl;
      y-below = ltb-true y p o.0;
      x_below = solves.0.1;
      sign = solves.1;
      on-curve = equation r.x y solves.0.0;
    }
