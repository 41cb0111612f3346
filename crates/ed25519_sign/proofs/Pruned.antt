-- The pruned scalar: below 2^255, since its last byte is below 128.
use Prim.Native.Nat.{ℕ, ◌+◌, ◌*◌, ◌/◌, ◌%◌, ◌^◌, ◌≤◌, ◌<◌}
use mathlib.Core.Path.{◌≡◌, refl, ◌∙◌}
use mathlib.Core.List.{List}
use native.Mathlib.Omega.{arith}
use native.Mathlib.Nat.{mul-le-mul_left}
use lib.ListN.{length, get_or, set, length-set}
use lib.Seq.{get_or-set_same}
use Rattle.laws.specs.Numbers.{le}
use Rattle.laws.proofs.Numbers.{le-bound}
use Rattle.digits.specs.Digits.{value, Each}
use Rattle.digits.proofs.Bounds.{each_set}
use Rattle.digits.proofs.Numbers.{le-bytes}
use Rattle.ed25519_sign.specs.Signing.{pruned}

-- w is 256^31, and a the last byte
topped : (w m a : ℕ) → m < w → a < 128 → m + w * a < w * 128
topped w m a h k = let most : w * a ≤ w * 127 = mul-le-mul_left w (omega arith) in omega arith

last_byte_lem : (s : List ℕ) → le 32 s 0 ≡ le 31 s 0 + 256 ^ 31 * get_or s 31 0
unfolding le
last_byte_lem s = refl

half_full : (s : List ℕ) → length s ≡ 32 → Each 255 s → get_or s 31 0 < 128 → value 256 s < 2 ^ 255
half_full s long bytes last =
    rw (← le-bytes 32 s long, last_byte_lem s)
    (topped (256 ^ 31) (le 31 s 0) (get_or s 31 0) (le-bound s (λ i. omega (arith, bytes.at i)) 31 0) last)

pub pruned-low : (s : List ℕ) → length s ≡ 32 → Each 255 s → value 256 (pruned s) < 2 ^ 255
unfolding pruned
pruned-low s long bytes =
    let first : ℕ = get_or s 0 0 / 8 * 8 in
    let last : ℕ = get_or s 31 0 % 64 + 64 in
    let l : length (set s 0 first) ≡ 32 = length-set s 0 first ∙ long in
    half_full (set (set s 0 first) 31 last) (length-set (set s 0 first) 31 last ∙ l)
    (each_set 255 (set s 0 first) 31 last (each_set 255 s 0 first bytes (omega (arith, bytes.at 0))) (omega arith))
    (rw (get_or-set_same (set s 0 first) 31 last 0 (omega arith)) (omega arith))
