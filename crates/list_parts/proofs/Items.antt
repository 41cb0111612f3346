-- Laws about the element at a place of a list.
use Rattle.std.specs.Prelude.{None, Some}
use Prim.Native.Char.{code}
use Prim.Native.Nat.{ℕ, zero, suc, ◌-◌, ◌≤◌, ◌<◌}
use mathlib.Core.Path.{◌≡◌, refl, sym}
use mathlib.Core.Bool.{Bool, true, false}
use mathlib.Core.List.{List, [], ◌∷◌}
use native.Mathlib.Omega.{arith}
use borrow.Author.Tests.{eqb-true}
use lib.Dec.{eqb}
use lib.ListN.{length, get_or, take}
use Rattle.laws.specs.Pick.{pick}
use Rattle.json_tokens.proofs.Picks.{inside}
use Rattle.json_values.specs.declared.Found.{Found}
use Rattle.json_values.specs.declared.Found.TheVariants.{Nothing, Twice}
use Rattle.json_values.specs.declared.Found.TheVariants.{At as FoundAt}
use Rattle.report_read.specs.Entry.{list_of as array_of}
use Rattle.list_parts.specs.Parts.{nth}
use Rattle.list_parts.specs.Facts.{item_in}

never : {A : Type 0} {k : ℕ} → Some k ≡ None → A
never e = let z : ◌≡◌ {A = ℕ} 0 1 = cc in absurd (omega arith)

-- what is said of the element at a place, by where it stands
module _ {B : Type 0} (d : B) (g : ℕ → B) where
  pub nth-at : (ks : List ℕ) (i : ℕ) {k : ℕ} → Some k ≡ item_in ks i → nth d g ks i ≡ g k
  unfolding nth item_in
  nth-at [] i e = never e
  nth-at (x ∷ ks) zero {k} e = let q : k ≡ x = cc in rw q refl
  nth-at (x ∷ ks) (suc i) e = nth-at ks i e

  pub nth-done : (ks : List ℕ) (i : ℕ) → None ≡ item_in ks i → nth d g ks i ≡ d
  unfolding nth item_in
  nth-done [] i e = refl
  nth-done (x ∷ ks) zero e = never (sym e)
  nth-done (x ∷ ks) (suc i) e = nth-done ks i e

-- ---- The first so many of a list that code has.
pub item-past : (ks : List ℕ) (i : ℕ) → length ks ≤ i → None ≡ item_in ks i
unfolding nth item_in
item-past [] i h = refl
item-past (x ∷ ks) zero h = absurd (omega arith)
item-past (x ∷ ks) (suc i) h = item-past ks i (omega arith)

pub item-get : (n : ℕ) (ks : List ℕ) (i : ℕ) → i < n → n ≤ length ks → Some (get_or ks i 0) ≡ item_in (take n ks) i
unfolding nth item_in
item-get zero ks i h g = absurd (omega arith)
item-get (suc n) [] i h g = absurd (omega arith)
item-get (suc n) (x ∷ ks) zero h g = refl
item-get (suc n) (x ∷ ks) (suc i) h g = item-get n ks i (omega arith) (omega arith)

-- ---- The elements of an array, one after the other.
pub item-none : (ks : List ℕ) (j : ℕ) → ks ≡ [] → None ≡ item_in ks j
unfolding nth item_in
item-none ks j e = rw e refl

pub item-here : {k : ℕ} (ks : List ℕ) {l : List ℕ} → l ≡ k ∷ ks → Some k ≡ item_in l 0
unfolding nth item_in
item-here ks e = rw e refl

pub item_on : {k : ℕ} (ks : List ℕ) {l : List ℕ} (n : ℕ) → l ≡ k ∷ ks → (n ≡ 0 → ⊥) → item_in ks (n - 1) ≡ item_in l n
unfolding nth item_in
item_on ks zero e h = absurd (h refl)
item_on ks (suc n) e h = let z : suc n - 1 ≡ n = omega arith in rw (e, z) refl

-- a list stands inside the text
array-at : (s : List ℕ) (u v : ℕ) (b : Bool) → eqb (get_or s u 0)
    (code "[") ≡ b → pick b (Some u) None ≡ Some v → v < length s
unfolding pick
array-at s u v true e q = let z : u ≡ v = cc in omega (arith, inside {k = get_or s u 0} s refl (eqb-true _ _ e) tt)
array-at s u v false e q = let z : ◌≡◌ {A = ℕ} 0 1 = cc in absurd (omega arith)

pub place_inside : (s : List ℕ) (f : Found) {v : ℕ} → array_of s f ≡ Some v → v < length s
unfolding array_of
place_inside s (FoundAt u) {v} q = array-at s u v _ refl q
place_inside s Nothing q = let z : ◌≡◌ {A = ℕ} 0 1 = cc in absurd (omega arith)
place_inside s Twice q = let z : ◌≡◌ {A = ℕ} 0 1 = cc in absurd (omega arith)
