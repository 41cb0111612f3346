-- Laws of numbers in decimal, for a loop that puts the last digit first.
use Prim.Native.Nat.{ℕ, zero, suc, ◌+◌, ◌*◌, ◌-◌, ◌/◌, ◌%◌, ◌^◌, ◌≤◌, ◌<◌}
use mathlib.Core.Path.{◌≡◌, refl, sym, ◌∙◌, ap}
use mathlib.Core.List.{List, [], ◌∷◌, ◌++◌, append_assoc}
use native.Mathlib.Omega.{arith}
use native.Mathlib.Nat.{pow-suc}
use lib.ListN.{length, take, drop, set, length-set, length-drop, drop_of_length-le}
use borrow.Author.Tests.{lt-ltb, le-ltb}
use Rattle.laws.specs.Pick.{pick}
use Rattle.list_write.proofs.Tests.{rest-is}
use Rattle.list_write.specs.Decimal.{decimal_in, decimal, Spelt}

-- what is left once a place is set: that value, and what stood behind it
pub drop-set : (l : List ℕ) (i v : ℕ) → i < length l → drop i (set l i v) ≡ v ∷ drop (suc i) l
drop-set [] i v h = elim h [ ]
drop-set (x ∷ l) zero v h = refl
drop-set (x ∷ l) (suc i) v h = drop-set l i v (omega arith)

-- the digits of `rest` are to stand before the place `from` and at it, and the others stand behind it
pub record Spelling (x : ℕ) (text : List ℕ) (from rest : ℕ) : Type 0 where
  pub long : length text ≡ 10
  pub inside : from ≤ 9
  pub below : rest < 10 ^ suc from
  pub is : decimal_in (suc from) rest ++ drop (suc from) text ≡ decimal x

pub spelling-first : (x : ℕ) (text : List ℕ) → x < 4294967296 → length text ≡ 10 → Spelling x text 9 x
unfolding decimal
spelling-first x text h l = record {
  long = l;
  inside = omega arith;
  below = omega arith;
  is = rest-none;
}
  where
    none : (t : List ℕ) → length t ≡ 10 → drop 10 t ≡ []
    none t l = drop_of_length-le t {i = 10} (omega arith)

    nil : (l : List ℕ) → l ++ [] ≡ l
    nil [] = refl
    nil (y ∷ l) = ap (λ m. y ∷ m) (nil l)

    rest-none : decimal_in 10 x ++ drop 10 text ≡ decimal_in 10 x
    rest-none = rw (none text l) (nil (decimal_in 10 x))

-- the digit that is put
module _ {x : ℕ} {text : List ℕ} {from rest v : ℕ} (s : Spelling x text from rest) (e : v ≡ 48 + rest % 10) where
  here : drop from (set text from v) ≡ (48 + rest % 10) ∷ drop (suc from) text
  here = drop-set text from v (omega (arith, s.long, s.inside)) ∙ ap (λ n. n ∷ drop (suc from) text) e

  long-set : length (set text from v) ≡ 10
  long-set = length-set text from v ∙ s.long

  pub spelling-last : rest < 10 → Spelt x (set text from v) from
  unfolding decimal_in pick
  spelling-last h = record {
    long = long-set;
    inside = s.inside;
    is = here ∙ rw (lt-ltb rest 10 h) at s.is;
  }

  pub spelling-more : 10 ≤ rest → 0 < from
  spelling-more h = by from s.below
    where
      by : (n : ℕ) → rest < 10 ^ suc n → 0 < n
      by zero g = absurd (omega arith)
      by (suc n) g = omega arith

turn : {x : ℕ} {text : List ℕ} {n rest v : ℕ} → Spelling x text (suc n) rest → v ≡ 48 + rest % 10 → 10 ≤ rest
    → Spelling x (set text (suc n) v) n (rest / 10)
unfolding decimal_in pick
turn {x} {text} {n} {rest} {v} s e h = record {
  long = long-set s e;
  inside = omega (arith, s.inside);
  below = let z : rest < 10 ^ suc n * 10 = rw (pow-suc 10 (suc n)) at s.below in omega arith;
  is =
      ap (λ l. decimal_in (suc n) (rest / 10) ++ l) (here s e)
      ∙ sym (append_assoc (decimal_in (suc n) (rest / 10)) ((48 + rest % 10) ∷ []) (drop (suc (suc n)) text))
      ∙ rw (le-ltb rest 10 h) at s.is;
}

pub spelling-turn : {x : ℕ} {text : List ℕ} {from rest v : ℕ} → Spelling x text from rest → v ≡ 48 + rest % 10
    → 10 ≤ rest → Spelling x (set text from v) (from - 1) (rest / 10)
spelling-turn {x} {text} {from} {rest} {v} s e h = by from s (spelling-more s e h)
  where
    by : (f : ℕ) → Spelling x text f rest → 0 < f → Spelling x (set text f v) (f - 1) (rest / 10)
    by zero w p = absurd (omega arith)
    by (suc n) w p = let m : suc n - 1 ≡ n = omega arith in rw m (turn w e h)

-- the digits, as code has them
pub spelt-rest : {x : ℕ} {text : List ℕ} {from : ℕ} → Spelt x text from → take (10 - from) (drop from text) ≡ decimal x
spelt-rest {x} {text} {from} s = ap (λ n. take (n - from) (drop from text)) (sym s.long) ∙ rest-is text from ∙ s.is

-- and how many there are
pub spelt-size : {x : ℕ} {text : List ℕ} {from : ℕ} → Spelt x text from → 10 - from ≡ length (decimal x)
spelt-size {x} {text} {from} s = omega (arith, s.long, length-drop from text, ap length s.is)
