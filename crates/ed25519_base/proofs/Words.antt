-- The bits of four words, column by column.
use Prim.Native.Nat.{ℕ, ◌+◌, ◌*◌, ◌/◌, ◌%◌, ◌^◌, ◌<◌}
use mathlib.Core.Path.{◌≡◌, sym, ap, ◌∙◌}
use mathlib.Core.List.{List, [], ◌∷◌}
use native.Mathlib.Omega.{arith}
use lib.ListN.{length}
use Rattle.laws.specs.Numbers.{le}
use Rattle.digits.specs.Digits.{value}
use Rattle.digits.proofs.Bits.{halve}
use Rattle.digits.proofs.Numbers.{le-bytes}
use Rattle.ed25519_field.proofs.Bytes.{words}
use Rattle.ed25519_base.specs.Comb.{word_radix, words_of, comb_of, column_of, teeth_of}

pub column-low : (a b c d i : ℕ) → column_of a b c d i < 16
unfolding column_of
column-low a b c d i = omega arith

-- four words doubled, with a bit more each; over any radix, since `omega` refuses the fourth power of this one
words_more : (X a b c d x y z w : ℕ)
    → value X ((a + a + x) ∷ (b + b + y) ∷ (c + c + z) ∷ (d + d + w) ∷ [])
    ≡ value X (a ∷ b ∷ c ∷ d ∷ []) + value X (a ∷ b ∷ c ∷ d ∷ []) + value X (x ∷ y ∷ z ∷ w ∷ [])
unfolding value
words_more X a b c d x y z w = omega arith

-- a word above bit i, and above the next bit
above : (n i : ℕ) → n / 2 ^ i ≡ n / 2 ^ (i + 1) + n / 2 ^ (i + 1) + n / 2 ^ i % 2
above n i = rw (halve n i) (split (n / 2 ^ i))
  where
    split : (m : ℕ) → m ≡ m / 2 + m / 2 + m % 2
    split m = omega arith

-- the bits of a column
lowest : (x m : ℕ) → x < 2 → (x + 2 * m) % 2 ≡ x
lowest x m h = omega arith

module _ (x y z w : ℕ) (hx : x < 2) (hy : y < 2) (hz : z < 2) (hw : w < 2) where
  teeth-of : teeth_of (x + 2 * y + 4 * z + 8 * w) ≡ words_of x y z w
  unfolding teeth_of
  teeth-of =
      let k : ℕ = x + 2 * y + 4 * z + 8 * w in
      let ex : k ≡ x + 2 * (y + 2 * (z + 2 * w)) = omega arith in
      let ey : k / 2 ≡ y + 2 * (z + 2 * w) = omega arith in
      let ez : k / 4 ≡ z + 2 * w = omega arith in
      let ew : k / 8 ≡ w + 2 * 0 = omega arith in
      let last : (n m x : ℕ) → n ≡ x + 2 * m → x < 2 → n % 2 ≡ x = λ n m x e h. ap (λ n. n % 2) e ∙ lowest x m h in
      rw (last k _ x ex hx, last (k / 2) _ y ey hy, last (k / 4) _ z ez hz, last (k / 8) 0 w ew hw)

-- four words that are twice others, with a bit more each
module _ (a b c d e f g h : ℕ) (ea : a ≡ e + e + a % 2) (eb : b ≡ f + f + b % 2) (ec : c ≡ g + g + c % 2)
    (ed : d ≡ h + h + d % 2) where
  one_more : words_of a b c d
      ≡ words_of e f g h + words_of e f g h + teeth_of (a % 2 + 2 * (b % 2) + 4 * (c % 2) + 8 * (d % 2))
  one_more =
      let low : (n : ℕ) → n % 2 < 2 = λ n. omega arith in
      let whole : words_of a b c d ≡ words_of (e + e + a % 2) (f + f + b % 2) (g + g + c % 2) (h + h + d % 2) = cc in
      whole ∙ words_more word_radix e f g h (a % 2) (b % 2) (c % 2) (d % 2)
      ∙ ap (λ n. words_of e f g h + words_of e f g h + n)
      (sym (teeth-of (a % 2) (b % 2) (c % 2) (d % 2) (low a) (low b) (low c) (low d)))

-- a column more
pub comb-more : (a b c d i : ℕ)
    → comb_of a b c d i ≡ comb_of a b c d (i + 1) + comb_of a b c d (i + 1) + teeth_of (column_of a b c d i)
unfolding comb_of column_of
comb-more a b c d i = one_more _ _ _ _ _ _ _ _ (above a i) (above b i) (above c i) (above d i)

zero-above : (n : ℕ) → n < word_radix → n / 2 ^ 64 ≡ 0
zero-above n h = omega arith

-- nothing is above bit 64
pub comb-first : (a b c d : ℕ) → a < word_radix → b < word_radix → c < word_radix → d < word_radix → comb_of a b c d 64 ≡ 0
unfolding comb_of value
comb-first a b c d ha hb hc hd = rw (zero-above a ha, zero-above b hb, zero-above c hc, zero-above d hd)

-- all bits of the words
whole : (a b c d : ℕ) → comb_of a b c d 0 ≡ a + word_radix * (b + word_radix * (c + word_radix * d))
unfolding comb_of value
whole a b c d =
    let one : (n : ℕ) → n / 1 ≡ n = λ n. omega arith in
    let last : d / 1 + 0 ≡ d = omega arith in
    rw (last, one a, one b, one c)

-- the number that 32 bytes stand for
pub comb-last : (s : List ℕ) (a b c d : ℕ) → length s ≡ 32 → a ≡ le 8 s 0 → b ≡ le 8 s 8 → c ≡ le 8 s 16
    → d ≡ le 8 s 24 → comb_of a b c d 0 ≡ value 256 s
comb-last s a b c d long ea eb ec ed = whole a b c d ∙ (rw (ea, eb, ec, ed) (sym (words s) ∙ le-bytes 32 s long))
