-- RFC 8032, section 5.1.3: the point that a string of 32 bytes stands for. The names are those of section 6. With no
-- root it is said by Encodes of ed25519_prime_laws: what decodes is the encoding of a point, and each encoding decodes.
use Rattle.std.specs.Prelude.{ℕ, ◌-◌, ◌/◌, ◌%◌, ◌^◌, Bool, true, false, cond, ◌&&◌, List, eqb, ltb}
use Rattle.laws.specs.Numbers.{le}
use Rattle.ed25519_field.specs.Field.{p, add_f, sub_f, mul_f, pow_f}
use Rattle.ed25519_curve.specs.Points.{Pt, d, affine, neutral}

-- a number, or none; where there is none it is 0
pub record Root : Type 0 where
  pub ok : Bool
  pub x : ℕ

abbrev pub some : ℕ → Root
some x = record { ok = true; x = x }

abbrev pub none : Root
none = record { ok = false; x = 0 }

-- a point, or none, which is "decoding fails"; where there is none it is the neutral point
pub record Decoding : Type 0 where
  pub ok : Bool
  pub point : Pt

abbrev pub no_point : Decoding
no_point = record { ok = false; point = neutral }

-- step 1: "Interpret the string as an integer in little-endian representation. Bit 255 of this number is the least
-- significant bit of the x-coordinate and denote this value x_0. The y-coordinate is recovered simply by clearing this
-- bit. If the resulting value is >= p, decoding fails."
abbrev pub sign_of : List ℕ → ℕ
sign_of s = le 32 s 0 / 2 ^ 255 % 2

abbrev pub y_of : List ℕ → ℕ
y_of s = le 32 s 0 % 2 ^ 255

-- step 2: "Let u = y^2 - 1 and v = d y^2 + 1", and the candidate root of u/v is x = u v^3 (u v^7)^((p-5)/8)
abbrev pub u_of : ℕ → ℕ
u_of y = sub_f (mul_f y y) 1

abbrev pub v_of : ℕ → ℕ
v_of y = add_f (mul_f d (mul_f y y)) 1

unfoldable pub candidate_of : ℕ → ℕ → ℕ
candidate_of u v = mul_f (mul_f u (pow_f v 3)) (pow_f (mul_f u (pow_f v 7)) ((p - 5) / 8))

-- step 3: "If v x^2 = u (mod p), x is a square root. If v x^2 = -u (mod p), set x <-- x * 2^((p-1)/4), which is a
-- square root. Otherwise, no square root exists for modulo p, and decoding fails." Here w is v x^2.
unfoldable pub sqrt_m1 : ℕ
sqrt_m1 = pow_f 2 ((p - 1) / 4)

abbrev pub chosen : ℕ → ℕ → ℕ → Root
chosen u w x = cond (eqb w u) (some x) (cond (eqb w (sub_f 0 u)) (some (mul_f x sqrt_m1)) none)

unfoldable pub root_of : ℕ → ℕ → Root
root_of u v = chosen u (mul_f v (mul_f (candidate_of u v) (candidate_of u v))) (candidate_of u v)

-- step 4: "If x = 0, and x_0 = 1, decoding fails. Otherwise, if x_0 != x mod 2, set x <-- p - x."
unfoldable pub signed_of : ℕ → ℕ → Root
signed_of x0 x = cond (eqb x 0 && eqb x0 1) none (cond (eqb x0 (x % 2)) (some x) (some (p - x)))

-- steps 2 to 4: the x of a point with this y and this sign
abbrev pub after_root : Root → (ℕ → Root) → Root
after_root r f = cond r.ok (f r.x) none

unfoldable pub recover_x : ℕ → ℕ → Root
recover_x y x0 = after_root (root_of (u_of y) (v_of y)) (signed_of x0)

-- all of it: "Return the decoded point (x,y)."
abbrev pub with_x : ℕ → Root → Decoding
with_x y r = cond r.ok (record { ok = true; point = affine r.x y }) no_point

unfoldable pub decode_of : List ℕ → Decoding
decode_of s = cond (ltb (y_of s) p) (with_x (y_of s) (recover_x (y_of s) (sign_of s))) no_point
