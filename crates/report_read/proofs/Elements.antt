-- Laws about the elements of the list: `from s k` are the places of those from the one at k on.
use Rattle.std.specs.Prelude.{Some}
use Prim.Native.Nat.{ℕ, ◌+◌}
use mathlib.Core.Path.{◌≡◌, refl, sym}
use mathlib.Core.Bool.{Bool, true, false}
use mathlib.Core.List.{List, [], ◌∷◌}
use lib.ListN.{length, get_or}
use borrow.Author.Tests.{ne_eqb}
use Rattle.laws.specs.Pick.{pick, either, both}
use Rattle.json_tokens.specs.declared.Step.{Step}
use Rattle.json_tokens.specs.declared.Step.TheVariants.{More, End}
use Rattle.json_tokens.specs.Scan.{past_while, blank}
use Rattle.json_tokens.specs.Walk.{starts, walked}
use Rattle.json_values.specs.Value.{value_at, item_step, array_of}
use Rattle.json_tokens.proofs.Turns.{starts_more, starts-end}
use Rattle.json_values.proofs.Ahead.{forth-items}
use Rattle.report_read.specs.Entry.{in_list, elements_of}
use Rattle.report_read.specs.Ready.{from}

-- a test that both parts pass
pub both_left : (p q : Bool) → both p q ≡ true → p ≡ true
unfolding both
both_left true q e = refl
both_left false q e = e

pub both_right : (p q : Bool) → both p q ≡ true → q ≡ true
unfolding both
both_right true q e = e
both_right false q e = let z : ◌≡◌ {A = Bool} false true = e in cc

pub neither_left : (p q : Bool) → either p q ≡ false → p ≡ false
unfolding either
neither_left true q e = e
neither_left false q e = refl

pub neither_right : (p q : Bool) → either p q ≡ false → q ≡ false
unfolding either
neither_right true q e = let z : ◌≡◌ {A = Bool} true false = e in cc
neither_right false q e = e

-- ---- Turns.
module _ (s : List ℕ) (v : ℕ) {start b : ℕ} (e : start ≡ past_while blank s (v + 1)) (h : b ≡ get_or s start 0) where
  pub elements-from : (b ≡ 93 → ⊥) → elements_of s in_list v ≡ from s start
  unfolding elements_of pick from
  elements-from g = rw (sym e, sym h, ne_eqb b 93 g) refl

  pub elements-none : b ≡ 93 → elements_of s in_list v ≡ []
  unfolding elements_of pick
  elements-none g = rw (sym e, sym h, g) refl

  -- and the array, as it is walked
  pub array-some : (b ≡ 93 → ⊥) → walked (length s) (item_step s (value_at s in_list)) start ≡ array_of s (value_at s in_list) v
  unfolding array_of pick
  array-some g = rw (sym e) (rw (sym h, ne_eqb b 93 g) refl)

  pub array-empty : b ≡ 93 → array_of s (value_at s in_list) v ≡ Some (start + 1)
  unfolding array_of pick
  array-empty g = rw (sym e) (rw (sym h, g) refl)

module _ (s : List ℕ) (k : ℕ) {x : Step} (e : x ≡ item_step s (value_at s in_list) k) where
  pub from_more : {j : ℕ} → x ≡ More j → from s k ≡ k ∷ from s j
  unfolding from
  from_more h = starts_more (length s) (item_step s (value_at s in_list)) (forth-items s in_list) k e h

  pub from_end : {j : ℕ} → x ≡ End j → from s k ≡ k ∷ []
  unfolding from
  from_end h = starts-end (length s) (item_step s (value_at s in_list)) k e h

-- the first element from k on is the one at k
pub rest : List ℕ → ℕ → List ℕ
rest s k = tail_of (from s k)
  where
    tail_of : List ℕ → List ℕ
    tail_of [] = []
    tail_of (x ∷ xs) = xs

pub from-head : (s : List ℕ) (k : ℕ) → from s k ≡ k ∷ rest s k
unfolding from starts rest
from-head s k = refl
