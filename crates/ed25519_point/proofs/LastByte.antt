-- A number added to the last byte of a number in bytes.
use Prim.Native.Nat.{ℕ, zero, suc, ◌+◌, ◌*◌, ◌/◌, ◌%◌, ◌^◌, ◌≤◌, ◌<◌}
use mathlib.Core.Path.{◌≡◌, sym, ap, ◌∙◌}
use mathlib.Core.List.{[], ◌∷◌}
use native.Mathlib.Omega.{arith}
use native.Mathlib.Nat.{pow-zero, mul_assoc, div-one, div-lt_iff_lt-mul}
use native.Mathlib.Nat.{lt_of_lt_of_le}
use lib.Dec.{leb→le, lit<}
use lib.ListN.{set, get_or}
use Rattle.laws.specs.Numbers.{le_bytes}
use Rattle.ed25519_field.specs.Field.{p}
use Rattle.ed25519_field.proofs.Octets.{above, lowest-same, others-more}
use Rattle.ed25519_point.specs.Encoding.{encode_of}

-- the last of k + 1 bytes
last_of : (k y : ℕ) → get_or (le_bytes (suc k) y) k 0 ≡ y / 256 ^ k % 256
unfolding le_bytes
last_of zero y = rw (pow-zero, div-one)
last_of (suc k) y = last_of k (y / 256) ∙ ap (λ n. n % 256) (above k y)

raised : (k y a : ℕ) → y / 256 ^ k + a < 256
    → set (le_bytes (suc k) y) k (get_or (le_bytes (suc k) y) k 0 + a) ≡ le_bytes (suc k) (y + 256 ^ k * a)
unfolding le_bytes
raised zero y a h =
    let g : y + a < 256 = rw (pow-zero, div-one) at h in
    let e : y % 256 + a ≡ (y + 1 * a) % 256 = omega arith in
    rw pow-zero (ap (λ n. n ∷ []) e)
raised (suc k) y a h =
    rw (lowest-same k y a, others-more k y a) (ap (λ l. y % 256 ∷ l) (raised k (y / 256) a (rw (above k y) h)))

p-top : p ≤ 128 * 256 ^ 31
unfolding p
p-top = leb→le p (128 * 256 ^ 31) tt

-- the sign of x in the last byte of y
module _ (x y : ℕ) (h : y < p) where
  top_small : y / 256 ^ 31 < 128
  top_small = (div-lt_iff_lt-mul {k = 256 ^ 31} {x = y} {y = 128} (lit< tt)).1 (lt_of_lt_of_le h p-top)

  pub sign_fits : get_or (le_bytes 32 y) 31 0 + 128 * (x % 2) ≤ 255
  sign_fits = let t = top_small in rw (last_of 31 y) (small _ x t)
    where
      small : (t x : ℕ) → t < 128 → t % 256 + 128 * (x % 2) ≤ 255
      small t x g = omega arith

  pub signed : set (le_bytes 32 y) 31 (get_or (le_bytes 32 y) 31 0 + 128 * (x % 2)) ≡ encode_of x y
  unfolding encode_of
  signed = raised 31 y (128 * (x % 2)) (small _ x top_small)
      ∙ ap (λ n. le_bytes 32 (y + n)) (sym (mul_assoc (256 ^ 31) 128 (x % 2)))
    where
      small : (t x : ℕ) → t < 128 → t + 128 * (x % 2) < 256
      small t x g = omega arith
