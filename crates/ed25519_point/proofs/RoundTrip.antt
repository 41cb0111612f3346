-- What decodes is the encoding of its point: no two strings decode to one point. That every point is had so is shown in
-- the crate ed25519_prime_laws.
use Prim.Native.Nat.{ℕ, ◌+◌, ◌*◌, ◌/◌, ◌%◌, ◌^◌, ◌<◌}
use mathlib.Core.Path.{◌≡◌, refl, ap, ap₂, ◌∙◌}
use mathlib.Core.List.{List}
use native.Mathlib.Omega.{arith}
use native.Mathlib.Nat.{div-add-mod, mod-eq_of_lt, div-lt_iff_lt-mul}
use lib.Dec.{lit<}
use lib.ListN.{length}
use lib.Seq.{take_all}
use Rattle.laws.specs.Bytes.{Bytes}
use Rattle.laws.specs.Numbers.{le, le_bytes}
use Rattle.laws.proofs.Numbers.{le-bound, le_bytes-le}
use Rattle.ed25519_point.specs.Encoding.{encode_of}
use Rattle.ed25519_point.proofs.OnCurve.{Decodes}

-- a number below 2 h is its rest and its one bit more
halves : (h v : ℕ) → 0 < h → v < 2 * h → v % h + h * (v / h % 2) ≡ v
halves h v pos l =
    let bit : v / h % 2 ≡ v / h = mod-eq_of_lt ((div-lt_iff_lt-mul pos).1 l) in
    let e : v % h + h * (v / h) ≡ v = omega (arith, div-add-mod v h) in
    ap (λ n. v % h + h * n) bit ∙ e

power-is : 256 ^ 32 ≡ 2 * 2 ^ 255
power-is = refl

module _ (s : List ℕ) (bytes : Bytes s) (long : length s ≡ 32) (x y : ℕ) (decodes : Decodes s x y) where
  -- the encoding of the decoded point is what was decoded
  pub encode-decoded : encode_of x y ≡ s
  unfolding encode_of
  encode-decoded =
      let v : ℕ = le 32 s 0 in
      let low : v < 2 * 2 ^ 255 = rw power-is at (le-bound s bytes 32 0) in
      let n : y + 2 ^ 255 * (x % 2) ≡ v =
      ap₂ (λ a b. a + 2 ^ 255 * b) decodes.y-is decodes.sign ∙ halves (2 ^ 255) v (lit< tt) low in
      ap (le_bytes 32) n ∙ le_bytes-le s bytes 32 0 (omega arith) ∙ take_all 32 s (omega arith)
