-- The secret scalar of a seed has the bit 2^254, none above it, and none of the lowest three.
use Prim.Native.Nat.{ℕ, zero, suc, ◌+◌, ◌*◌, ◌/◌, ◌%◌, ◌^◌, ◌≤◌, ◌<◌}
use mathlib.Core.Path.{◌≡◌, refl, sym, ap, ap₂, ◌∙◌}
use mathlib.Core.List.{List}
use native.Mathlib.Omega.{arith}
use native.Mathlib.Nat.{add-zero, mul-le-mul_left, mod-eq_of_lt}
use lib.Dec.{lit<, lit≤}
use lib.ListN.{length, take, get_or, set, length-set}
use lib.Seq.{get_or-set_same, get_or-set_other, length-take-le}
use Rattle.laws.specs.Bytes.{Bytes}
use Rattle.laws.specs.Numbers.{le}
use Rattle.laws.proofs.Bytes.{bytes_take}
use Rattle.laws.proofs.Numbers.{le-add, le-cons, le-bound}
use Rattle.sha512.specs.Computation.{Sha512}
use Rattle.sha512.proofs.Digested.{Sha512-long}
use Rattle.ed25519_scalar.specs.Order.{L}
use Rattle.ed25519_prime_laws.proofs.Euclid.{euclid}
use Rattle.ed25519_group_laws.proofs.PrimeOrder.{L-prime}
use Rattle.ed25519_sign.specs.Signing.{pruned, scalar_of}
use Rattle.ed25519_sign_laws.specs.Signed.{SecretScalar}
use Rattle.ed25519_sign_laws.proofs.Bytes.{bytes-sha512}

-- what lies between the bit 2^254 and the lowest three, over 8: a, b and m are the first byte, the last and the number
-- in those between, and w is 256^30
abbrev middle : ℕ → ℕ → ℕ → ℕ → ℕ
middle w a b m = a / 8 + 32 * m + 32 * (w * (b % 64))

middle-low : (w a b m : ℕ) → a < 256 → m < w → middle w a b m < 2048 * w
middle-low w a b m a_byte m-low =
    let top : b % 64 ≤ 63 = omega arith in
    let most : w * (b % 64) ≤ w * 63 = mul-le-mul_left w top in
    omega arith

middle-is : (w a b m : ℕ)
    → a / 8 * 8 + 256 * m + 256 * w * (b % 64 + 64) ≡ 16384 * w + 8 * middle w a b m
middle-is w a b m = omega arith

one_byte : (s : List ℕ) (at : ℕ) → le 1 s at ≡ get_or s at 0
unfolding le
one_byte s at = omega (arith, ap (λ (i : ℕ). get_or s i 0) (add-zero at))

-- of 32 bytes
module _ (h : List ℕ) (bytes : Bytes h) (long : length h ≡ 32) where
  abbrev first : ℕ
  first = get_or h 0 0 / 8 * 8

  abbrev last : ℕ
  last = get_or h 31 0 % 64 + 64

  first-is : get_or (pruned h) 0 0 ≡ first
  unfolding pruned
  first-is =
      get_or-set_other (set h 0 first) 31 0 last 0 (λ (e : 0 ≡ 31). omega arith) ∙ get_or-set_same h 0 first 0 (omega arith)

  last-is : get_or (pruned h) 31 0 ≡ last
  unfolding pruned
  last-is = get_or-set_same (set h 0 first) 31 last 0 (omega (arith, length-set h 0 first))

  other-is : (i : ℕ) → 0 < i → i < 31 → get_or (pruned h) i 0 ≡ get_or h i 0
  unfolding pruned
  other-is i l u =
      get_or-set_other (set h 0 first) 31 i last 0 (λ (e : i ≡ 31). omega arith)
      ∙ get_or-set_other h 0 i first 0 (λ (e : i ≡ 0). omega arith)

  between_is : (k : ℕ) → k ≤ 30 → le k (pruned h) 1 ≡ le k h 1
  unfolding le
  between_is zero l = refl
  between_is (suc k) l = rw (between_is k (omega arith), other-is (1 + k) (omega arith) (omega arith))

  abbrev between : ℕ
  between = middle (256 ^ 30) (get_or h 0 0) (get_or h 31 0) (le 30 h 1)

  number_is : le 32 (pruned h) 0 ≡ first + 256 * le 30 h 1 + 256 ^ 31 * last
  number_is =
      le-add 31 1 (pruned h) 0
      ∙ ap₂ (λ (m n : ℕ). m + 256 ^ 31 * n)
      (le-cons 30 (pruned h) 0 ∙ ap₂ (λ (m n : ℕ). m + 256 * n) first-is (between_is 30 (omega arith)))
      (one_byte (pruned h) 31 ∙ last-is)

  pub pruned-scalar : SecretScalar (le 32 (pruned h) 0)
  pruned-scalar =
      record {
        between = between;
        low = middle-low (256 ^ 30) (get_or h 0 0) (get_or h 31 0) (le 30 h 1) (bytes 0) (le-bound h bytes 30 1);
        is = number_is ∙ middle-is (256 ^ 30) (get_or h 0 0) (get_or h 31 0) (le 30 h 1);
      }

pub secret-scalar : (seed : List ℕ) → SecretScalar (scalar_of seed)
unfolding scalar_of
secret-scalar seed =
    pruned-scalar (take 32 (Sha512 seed)) (bytes_take (Sha512 seed) (bytes-sha512 seed) 32)
    (length-take-le 32 (Sha512 seed) (omega (arith, Sha512-long seed)))

-- ---- it is no multiple of L

below_other : (n : ℕ) → 0 < n → n < L → n % L ≡ 0 → ⊥
below_other n some low e = omega (arith, mod-eq_of_lt low)

eight-low : 8 < L
unfolding L
eight-low = lit< tt

room : 2 * 2 ^ 251 ≤ L
unfolding L
room = lit≤ tt

-- 8 times what is below L; w is 2^251
eights : (w m : ℕ) → 8 * w + 8 * m ≡ 8 * (w + m)
eights w m = omega arith

over-eight : (w m : ℕ) → 0 < w → m < w → 2 * w ≤ L → (w + m) % L ≡ 0 → ⊥
over-eight w m some low most = below_other (w + m) (omega arith) (omega arith)

pub scalar-other : (s : ℕ) → SecretScalar s → s % L ≡ 0 → ⊥
scalar-other s c e =
    let m = c.between in
    let turned = ap (λ (n : ℕ). n % L) (c.is ∙ eights (2 ^ 251) m) in
    below_other 8 (omega arith) eight-low
    (euclid L (2 ^ 251 + m) L-prime (over-eight (2 ^ 251) m (lit< tt) c.low room) 8 (sym turned ∙ e))
