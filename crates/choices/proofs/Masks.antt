-- Choices by masks.
use Prim.Native.Nat.{ℕ, ◌+◌, ◌-◌, ◌*◌, ◌/◌, ◌^◌, ◌≤◌, ◌<◌}
use mathlib.Core.Path.{◌≡◌, refl, sym, ap, ◌∙◌}
use mathlib.Core.Bool.{Bool, true, false, cond}
use mathlib.Core.List.{List}
use lib.ListN.{length, get_or}
use lib.Seq.{ext_get_or}
use native.Mathlib.Omega.{arith}
use native.Mathlib.Decide.{dec_lt}
use native.Mathlib.Nat.{mod-eq_of_lt}
use borrow.Author.Tests.{eq-eqb, ne_eqb}
use lib.Dec.{eqb, lit<}
use lib.Bits.{bit_and, bit_or, bit_xor, and_mask, and_zero_r, or_zero_l, or_zero_r, xor_self, xor_lt, xor_add_and, and_le_l, and_le_r}

-- a mask of ones keeps a word
all : (a : ℕ) → a < 2 ^ 64 → bit_and a 18446744073709551615 ≡ a
all a h = and_mask a 64 ∙ mod-eq_of_lt h

-- a bit is 0 or 1
pub two : (P : ℕ → Type 0) (bit : ℕ) → bit < 2 → P 0 → P 1 → P bit
two P bit small p q = elim (dec_lt bit 1) [
  | yes g ↦ (let z : bit ≡ 0 = omega arith in rw z p)
  | no g ↦ (let z : bit ≡ 1 = omega arith in rw z q)
]

pub mask_fits : (bit : ℕ) → bit < 2 → bit * 18446744073709551615 < 2 ^ 64
mask_fits bit h = two (λ t. t * 18446744073709551615 < 2 ^ 64) bit h (lit< tt) (lit< tt)

module _ (bit a b : ℕ) (small : bit < 2) (fa : a < 2 ^ 64) (fb : b < 2 ^ 64) where
  -- by two masks
  pub by-masks : (n m : ℕ) → n ≡ (1 - bit) * 18446744073709551615 → m ≡ bit * 18446744073709551615
      → bit_or (bit_and a n) (bit_and b m) ≡ cond (eqb bit 1) b a
  by-masks n m en em =
      rw (en, em)
      (two (λ t. bit_or (bit_and a ((1 - t) * 18446744073709551615)) (bit_and b (t * 18446744073709551615)) ≡ cond (eqb t 1) b a) bit small
      (rw (all a fa, and_zero_r b, or_zero_r a) refl)
      (rw (all b fb, and_zero_r a, or_zero_l b) refl))

-- the test of two words below 16
module _ (j k : ℕ) (hj : j < 16) (hk : k < 16) where
  pub apart : bit_xor j k ≤ 16
  apart = omega (arith, xor_lt 4 j k hj hk)

  other : (j ≡ k → ⊥) → (16 - bit_xor j k) / 16 ≡ cond (eqb j k) 1 0
  other e =
      rw (ne_eqb j k e) (omega (arith, xor_lt 4 j k hj hk, xor_add_and j k, and_le_l j k, and_le_r j k))

  pub alike : (16 - bit_xor j k) / 16 ≡ cond (eqb j k) 1 0
  alike = elim (dec_lt j k) [
    | yes g ↦ other (λ (e : j ≡ k). omega arith)
    | no g ↦ elim (dec_lt k j) [
      | yes f ↦ other (λ (e : j ≡ k). omega arith)
      | no f ↦ (let e : j ≡ k = omega arith in rw (eq-eqb j k e, e, xor_self k) refl)
    ]
  ]

-- a list whose elements are chosen is the list chosen
pub chosen : (t : Bool) (n : ℕ) (a b out : List ℕ) → length a ≡ n → length b ≡ n → length out ≡ n
    → ((j : ℕ) → j < n → get_or out j 0 ≡ cond t (get_or b j 0) (get_or a j 0)) → out ≡ cond t b a
chosen true n a b out la lb lo h = ext_get_or 0 out b (lo ∙ sym lb) (λ i g. h i (omega arith))
chosen false n a b out la lb lo h = ext_get_or 0 out a (lo ∙ sym la) (λ i g. h i (omega arith))

-- a test as a number is a bit
pub bit-of : (t : Bool) (n : ℕ) → n ≡ cond t 1 0 → n < 2
bit-of true n e = omega arith
bit-of false n e = omega arith

-- a table of which every row is read: the row that is looked for is kept from its turn on
module _ {A : Type 0} (row : ℕ → A) (k j hit : ℕ) (out r next : A) where
  pub row-turn : (k < j → out ≡ row k) → hit ≡ cond (eqb j k) 1 0 → r ≡ row j → next ≡ cond (eqb hit 1) r out
      → k < j + 1 → next ≡ row k
  row-turn old h e n g = elim (dec_lt k j) [
    | yes f ↦
        (let q : hit ≡ 0 = (rw (ne_eqb j k (λ (z : j ≡ k). omega arith)) at h) in
        (rw q at n) ∙ old f)
    | no f ↦
        (let z : j ≡ k = omega arith in
        let q : hit ≡ 1 = (rw (eq-eqb j k z) at h) in
        (rw q at n) ∙ e ∙ ap row z)
  ]
