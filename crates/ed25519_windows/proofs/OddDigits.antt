-- A scalar as odd digits: the turns of `digits_of`, and `top`.
use Prim.Native.Nat.{ℕ, ◌+◌, ◌-◌, ◌*◌, ◌/◌, ◌%◌, ◌^◌, ◌≤◌, ◌<◌}
use mathlib.Core.Path.{◌≡◌, refl, sym, ap, ◌∙◌}
use mathlib.Core.List.{List}
use native.Mathlib.Omega.{arith}
use native.Mathlib.Decide.{ℕ_discrete}
use native.Mathlib.Numerals.{add-one}
use native.Mathlib.Nat.{div-div-eq-div-mul, div-one, div-eq_of_lt, pow-zero, pow-suc, lt_of_lt_of_le}
use lib.ListN.{length, set, get_or, replicate, length-set, get_or-eq_default}
use lib.Seq.{get_or-set_same, get_or-set_other}
use lib.Pow.{pow-add, pow_mono, shr-shr}
use Rattle.digits.specs.Digits.{value}
use Rattle.digits.proofs.Bounds.{value-lt, each-zeros}
use Rattle.digits.proofs.Bits.{halve}
use Rattle.ed25519_field.specs.Limbs.{radix, Digits}
use Rattle.ed25519_windows.specs.OddDigits.{Digit, plus_of, less_of, total, Recoded, Above}
use Rattle.ed25519_windows.proofs.Totals.{total-put, total-none, plus_none, less_none}
use Rattle.ed25519_windows.proofs.Totals.{plus-low, less-low, plus-high, less-high}

-- a bit beyond the limbs
pub bit-beyond : (l : List ℕ) (i : ℕ) → length l ≡ 5 → Digits l → 255 ≤ i → 0 ≡ value radix l / 2 ^ i % 2
bit-beyond l i h e g =
    let lt : value radix l < 2 ^ 255 = rw h at (value-lt 2251799813685247 l e) in
    sym (ap (λ n. n % 2) (div-eq_of_lt (lt_of_lt_of_le lt (pow_mono g))))

-- a number and its lowest bit
bit-off : (v i j b : ℕ) → j ≡ i + 1 → b ≡ v / 2 ^ i % 2 → (v / 2 ^ i ≡ b + 2 * (v / 2 ^ j)) × (b < 2)
bit-off v i j b z e =
    let h : v / 2 ^ j ≡ v / 2 ^ i / 2 = ap (λ n. v / 2 ^ n) z ∙ halve v i in
    (omega arith, omega arith)

-- `five_bits`
pub five-bits : (v i b0 b1 b2 b3 b4 : ℕ) → b0 ≡ v / 2 ^ i % 2 → b1 ≡ v / 2 ^ (i + 1) % 2 → b2 ≡ v / 2 ^ (i + 2) % 2
    → b3 ≡ v / 2 ^ (i + 3) % 2 → b4 ≡ v / 2 ^ (i + 4) % 2
    → b0 + 2 * b1 + 4 * b2 + 8 * b3 + 16 * b4 ≡ v / 2 ^ i % 32
five-bits v i b0 b1 b2 b3 b4 e0 e1 e2 e3 e4 =
    sum _ _ _ _ _ _ _ _ _ _ _ (bit-off v i (i + 1) b0 refl e0) (bit-off v (i + 1) (i + 2) b1 (omega arith) e1)
    (bit-off v (i + 2) (i + 3) b2 (omega arith) e2) (bit-off v (i + 3) (i + 4) b3 (omega arith) e3)
    (bit-off v (i + 4) (i + 5) b4 (omega arith) e4)
  where
    sum : (x0 x1 x2 x3 x4 x5 b0 b1 b2 b3 b4 : ℕ) → (x0 ≡ b0 + 2 * x1) × (b0 < 2) → (x1 ≡ b1 + 2 * x2) × (b1 < 2)
        → (x2 ≡ b2 + 2 * x3) × (b2 < 2) → (x3 ≡ b3 + 2 * x4) × (b3 < 2) → (x4 ≡ b4 + 2 * x5) × (b4 < 2)
        → b0 + 2 * b1 + 4 * b2 + 8 * b3 + 16 * b4 ≡ x0 % 32
    sum x0 x1 x2 x3 x4 x5 b0 b1 b2 b3 b4 e0 e1 e2 e3 e4 = omega arith

-- the loop of `digits_of` has come to bit i of v
pub record Going (v : ℕ) (t : List ℕ) (i carry : ℕ) : Type 0 where
  pub long : length t ≡ 256
  pub odd : (j : ℕ) → Digit (get_or t j 0)
  pub free : (j : ℕ) → i ≤ j → get_or t j 0 ≡ 0
  -- what is carried comes from the bit below
  pub low : carry ≤ 2 * v / 2 ^ i % 2
  pub is : total plus_of t + 2 ^ i * (v / 2 ^ i + carry) ≡ v + total less_of t

abbrev blank : List ℕ
blank = replicate 256 0

pub going-first : (v : ℕ) → Going v blank 0 0
going-first v = record {
  long = refl;
  odd = λ j h. absurd (h (none j));
  free = λ j h. none j;
  low = omega arith;
  is = rw (
    total-none plus_of plus_none blank none,
    total-none less_of less_none blank none,
    pow-zero,
    div-one,
  ) (omega arith);
}
  where
    none : (j : ℕ) → get_or blank j 0 ≡ 0
    none j = omega (arith, (each-zeros 0 256).at j)

-- a step: a is put in, z is taken off, and of n at P there is left m at Q
moved : (P Q w n m a z plus less plus' less' v : ℕ) → Q ≡ P * w → plus + P * n ≡ v + less → plus' ≡ plus + P * a
    → less' ≡ less + P * z → n + z ≡ a + w * m → plus' + Q * m ≡ v + less'
moved P Q w n m a z plus less plus' less' v q e ep el h =
    let g : P * (n + z) ≡ P * (a + w * m) = ap (λ k. P * k) h in
    let r : Q * m ≡ P * w * m = ap (λ k. k * m) q in
    omega arith

-- twice a number, one bit higher
above : (v k : ℕ) → 2 * v / 2 ^ (k + 1) ≡ v / 2 ^ k
above v k =
    let z : 2 ^ (k + 1) ≡ 2 * 2 ^ k = rw (add-one, pow-suc) (omega arith) in
    ap (λ n. 2 * v / n) z ∙ sym (div-div-eq-div-mul (2 * v) 2 (2 ^ k)) ∙ ap (λ n. n / 2 ^ k) (twice v)
  where
    twice : (n : ℕ) → 2 * n / 2 ≡ n
    twice n = omega arith

-- where bit and carry are the same nothing is put in, and the carry stays
pub going-skip : (v b carry : ℕ) (t : List ℕ) (i : ℕ) → Going v t i carry → b ≡ v / 2 ^ i % 2 → b ≡ carry
    → Going v t (i + 1) carry
going-skip v b carry t i g e h =
    let up : v / 2 ^ (i + 1) ≡ v / 2 ^ i / 2 = halve v i in
    let p : 2 ^ (i + 1) ≡ 2 ^ i * 2 = rw (add-one, pow-suc) in
    record {
      long = g.long;
      odd = g.odd;
      free = λ j l. g.free j (omega arith);
      low = rw above (omega arith);
      is = moved (2 ^ i) (2 ^ (i + 1)) 2 (v / 2 ^ i + carry) (v / 2 ^ (i + 1) + carry) 0 0 (total plus_of t)
          (total less_of t) _ _ v p g.is (omega arith) (omega arith) (omega arith);
    }

-- what stands in a list in which a free place was filled
filled : (t : List ℕ) (i b : ℕ) (P : ℕ → ℕ → Type 0) → i < length t → P i b → ((j : ℕ) → P j (get_or t j 0)) → (j : ℕ)
    → P j (get_or (set t i b) j 0)
filled t i b P h p q j = elim (ℕ_discrete j i) [
  | yes e ↦ rw (e, get_or-set_same t i b 0 h) p
  | no e ↦ rw (get_or-set_other t i j b 0 e) (q j)
]

-- a digit at bit i, and what is left above the five bits
put : (v b carry next : ℕ) (t : List ℕ) (i : ℕ) → Going v t i carry → i < 256 → b % 2 ≡ 1
    → next ≤ 2 * v / 2 ^ (i + 5) % 2 → v / 2 ^ i + carry + less_of b ≡ plus_of b + 32 * (v / 2 ^ (i + 5) + next)
    → Going v (set t i b) (i + 5) next
put v b carry next t i g l o low e =
    let p : 2 ^ (i + 5) ≡ 2 ^ i * 32 = pow-add 2 i 5 in
    let long : i < length t = omega (arith, g.long) in
    let none : get_or t i 0 ≡ 0 = g.free i (omega arith) in
    record {
      long = length-set t i b ∙ g.long;
      odd = filled t i b (λ j n. Digit n) long (λ _. o) g.odd;
      free = filled t i b (λ j n. i + 5 ≤ j → n ≡ 0) long (λ h. absurd (omega arith)) (λ j h. g.free j (omega arith));
      low = low;
      is = moved (2 ^ i) (2 ^ (i + 5)) 32 (v / 2 ^ i + carry) (v / 2 ^ (i + 5) + next) (plus_of b) (less_of b)
          (total plus_of t) (total less_of t) _ _ v p g.is (total-put plus_of plus_none t i b long none)
          (total-put less_of less_none t i b long none) e;
    }

-- five bits and the carry as a digit, w
module _ (v b w carry : ℕ) (t : List ℕ) (i : ℕ) (g : Going v t i carry) (l : i < 256) (e : b ≡ v / 2 ^ i % 2)
    (h : b ≡ carry → ⊥) (f : w ≡ v / 2 ^ i % 32 + carry) where
  up5 : v / 2 ^ (i + 5) ≡ v / 2 ^ i / 32
  up5 = sym (shr-shr v i 5)

  -- the highest of the five bits
  up4 : 2 * v / 2 ^ (i + 5) ≡ v / 2 ^ i / 16
  up4 = let z : i + 5 ≡ i + 4 + 1 = omega arith in ap (λ n. 2 * v / 2 ^ n) z ∙ above v (i + 4) ∙ sym (shr-shr v i 4)

  carry-low : carry < 2
  carry-low = omega (arith, g.low)

  odd : w % 2 ≡ 1
  odd = digit-odd (v / 2 ^ i) b w carry carry-low e h f
    where
      digit-odd : (x b w carry : ℕ) → carry < 2 → b ≡ x % 2 → (b ≡ carry → ⊥) → w ≡ x % 32 + carry → w % 2 ≡ 1
      digit-odd x b w carry l e h f = omega arith

  pub most : w ≤ 31
  most = omega (arith, odd, carry-low)

  pub going-plus : w < 16 → Going v (set t i w) (i + 5) 0
  going-plus k =
      put v w carry 0 t i g l odd (omega arith)
      (rw (plus-low w k, less-low w k, up5) (sum (v / 2 ^ i) w carry f k))
    where
      sum : (x w carry : ℕ) → w ≡ x % 32 + carry → w < 16 → x + carry + 0 ≡ w + 32 * (x / 32 + 0)
      sum x w carry f k = omega arith

  pub going_less : 16 ≤ w → Going v (set t i (48 - w)) (i + 5) 1
  going_less k =
      let off : less_of (48 - w) ≡ 32 - w = less-high (48 - w) (32 - w) (omega (arith, most)) (omega (arith, odd)) in
      put v (48 - w) carry 1 t i g l (omega (arith, odd, most)) (rw up4 (top (v / 2 ^ i) w carry carry-low f odd k))
      (rw (plus-high (48 - w) (omega (arith, most)), off, up5) (sum (v / 2 ^ i) w carry f most k))
    where
      top : (x w carry : ℕ) → carry < 2 → w ≡ x % 32 + carry → w % 2 ≡ 1 → 16 ≤ w → 1 ≤ x / 16 % 2
      top x w carry l f o k = omega arith

      sum : (x w carry : ℕ) → w ≡ x % 32 + carry → w ≤ 31 → 16 ≤ w → x + carry + (32 - w) ≡ 0 + 32 * (x / 32 + 1)
      sum x w carry f m k = omega arith

-- past the last bit nothing is left
pub going-last : (l t : List ℕ) (i carry : ℕ) → length l ≡ 5 → Digits l → Going (value radix l) t i carry → 256 ≤ i
    → Recoded (value radix l) t
going-last l t i carry h e g k =
    let v : ℕ = value radix l in
    let low : v < 2 ^ 255 = rw h at (value-lt 2251799813685247 l e) in
    let twice : 2 * v < 2 ^ 256 = double v (2 ^ 255) low in
    let none2 : 2 * v / 2 ^ i ≡ 0 = div-eq_of_lt (lt_of_lt_of_le twice (pow_mono k)) in
    let none : v / 2 ^ i ≡ 0 = div-eq_of_lt (lt_of_lt_of_le low (pow_mono {i = 255} (omega arith))) in
    let z : v / 2 ^ i + carry ≡ 0 = omega (arith, g.low) in
    record { long = g.long; odd = g.odd; is = omega (arith, g.is, ap (λ n. 2 ^ i * n) z) }
  where
    double : (m n : ℕ) → m < n → 2 * m < 2 * n
    double m n g = omega arith

-- `top`: past the last digit there is none, and one place lower
pub above-all : (t : List ℕ) (i : ℕ) → length t ≡ 256 → i ≡ 256 → Above t i
above-all t i h e = record { low = omega arith; none = λ j l. get_or-eq_default t 0 (omega arith) }

pub above-next : (t : List ℕ) (i : ℕ) → Above t i → get_or t (i - 1) 0 ≡ 0 → Above t (i - 1)
above-next t i a e = record { low = omega (arith, a.low); none = none }
  where
    none : (j : ℕ) → i - 1 ≤ j → get_or t j 0 ≡ 0
    none j l = elim (ℕ_discrete j (i - 1)) [
      | yes q ↦ rw q e
      | no q ↦ a.none j (omega arith)
    ]
