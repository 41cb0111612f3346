-- Laws about texts, character by character.
use Prim.Native.Nat.{ℕ, ◌≤◌, ◌<◌}
use mathlib.Core.Path.{◌≡◌, refl, sym}
use mathlib.Core.Bool.{Bool, true, false, true≢false}
use mathlib.Core.List.{List, [], ◌∷◌}
use native.Mathlib.Omega.{arith}
use borrow.Author.Tests.{leb-true, lt-leb}
use lib.Dec.{leb}
use Rattle.laws.specs.Pick.{pick, either, both}
use Rattle.json_text.specs.Octets.{is_high, is_low, paired, joined, utf8, octets, none, onto, encoded, text_of}

both_true : (p q : Bool) → both p q ≡ true → (p ≡ true) × (q ≡ true)
unfolding both
both_true true q e = (refl, e)
both_true false q e = absurd (true≢false (sym e))

pub high-from : (c : ℕ) → is_high c ≡ true → 0xD800 ≤ c
unfolding is_high
high-from c e = leb-true _ _ (both_true (leb 0xD800 c) (leb c 0xDBFF) e).0

pub high-to : (c : ℕ) → is_high c ≡ true → c ≤ 0xDBFF
unfolding is_high
high-to c e = leb-true _ _ (both_true (leb 0xD800 c) (leb c 0xDBFF) e).1

pub low-from : (c : ℕ) → is_low c ≡ true → 0xDC00 ≤ c
unfolding is_low
low-from c e = leb-true _ _ (both_true (leb 0xDC00 c) (leb c 0xDFFF) e).0

pub low-to : (c : ℕ) → is_low c ≡ true → c ≤ 0xDFFF
unfolding is_low
low-to c e = leb-true _ _ (both_true (leb 0xDC00 c) (leb c 0xDFFF) e).1

-- a number above all surrogates is none
above : (p : Bool) (c n : ℕ) → n < c → both p (leb c n) ≡ false
unfolding both
above true c n h = lt-leb c n h
above false c n h = refl

pub paired-from : (h l : ℕ) → 0x10000 ≤ paired h l
unfolding paired
paired-from h l = omega arith

paired-one : (h l : ℕ) → either (is_high (paired h l)) (is_low (paired h l)) ≡ false
unfolding either is_high is_low
paired-one h l =
    let f = paired-from h l in
    rw (
      above (leb 0xD800 (paired h l)) (paired h l) 0xDBFF (omega arith),
      above (leb 0xDC00 (paired h l)) (paired h l) 0xDFFF (omega arith),
    ) refl

-- what is no pair stays
joined-stays : (c : ℕ) (l : List ℕ) → is_high c ≡ false → joined (c ∷ l) ≡ c ∷ joined l
unfolding joined pick both
joined-stays c [] h = refl
joined-stays c (d ∷ l) h = rw h refl

pub text-one : (c : ℕ) (l : List ℕ) → is_high c ≡ false → is_low c ≡ false → text_of (c ∷ l) ≡ onto (utf8 c) (text_of l)
unfolding text_of encoded pick either
text-one c l h g = rw (joined-stays c l h, h, g) refl

pub text-low : (c : ℕ) (l : List ℕ) → is_high c ≡ false → is_low c ≡ true → text_of (c ∷ l) ≡ none
unfolding text_of encoded pick either
text-low c l h g = rw (joined-stays c l h, h, g) refl

pub text-pair : (c d : ℕ) (l : List ℕ) → is_high c ≡ true → is_low d ≡ true
    → text_of (c ∷ d ∷ l) ≡ onto (utf8 (paired c d)) (text_of l)
unfolding text_of joined encoded pick both
text-pair c d l h g = rw (h, g, paired-one c d) refl

pub text-alone : (c : ℕ) → is_high c ≡ true → text_of (c ∷ []) ≡ none
unfolding text_of joined encoded pick either
text-alone c h = rw h refl

pub text-other : (c d : ℕ) (l : List ℕ) → is_high c ≡ true → is_low d ≡ false → text_of (c ∷ d ∷ l) ≡ none
unfolding text_of joined encoded pick both either
text-other c d l h g = rw (h, g) (rw h refl)

pub text-end : text_of [] ≡ octets []
unfolding text_of joined encoded
text-end = refl

-- numbers that are no surrogates
pub no-high : (c : ℕ) → (0xD800 ≤ c → 0xE000 ≤ c) → is_high c ≡ false
unfolding is_high both
no-high c h = by (leb 0xD800 c) refl
  where
    by : (t : Bool) → leb 0xD800 c ≡ t → both t (leb c 0xDBFF) ≡ false
    by true e = lt-leb c 0xDBFF (omega (arith, h (leb-true 0xD800 c e)))
    by false e = refl

pub no-low : (c : ℕ) → (0xD800 ≤ c → 0xE000 ≤ c) → is_low c ≡ false
unfolding is_low both
no-low c h = by (leb 0xDC00 c) refl
  where
    by : (t : Bool) → leb 0xDC00 c ≡ t → both t (leb c 0xDFFF) ≡ false
    by true e = let k = leb-true 0xDC00 c e in lt-leb c 0xDFFF (omega (arith, h (omega arith)))
    by false e = refl
