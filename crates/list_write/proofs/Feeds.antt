-- Laws of lines: where the first ends, and what all of them being good says.
use Prim.Native.Nat.{ℕ, suc, ◌+◌, ◌-◌, ◌≤◌, ◌<◌}
use mathlib.Core.Path.{◌≡◌, refl, sym, ◌∙◌, ap}
use mathlib.Core.Bool.{Bool, true, false, not, cond, ◌&&◌}
use mathlib.Core.List.{List, [], ◌∷◌}
use native.Mathlib.Omega.{arith}
use lib.Dec.{eqb, ltb}
use lib.ListN.{length, take, drop, get_or}
use borrow.Author.Tests.{eq-eqb, ne_eqb, ltb-true, ltb-false}
use Rattle.std.specs.Prelude.{None, Option, Some}
use Rattle.std.specs.List.{list_all, position_or_len}
use Rattle.laws.specs.Pick.{pick, both}
use Rattle.list_write.specs.declared.Item.{Item}
use Rattle.list_write.specs.Lines.{on_line, lines_of, ended, line_text, line_size, is_item, item_good, all_good}

pub size-some : (l : List ℕ) → 0 < length l → 0 < line_size l
unfolding line_size pick
size-some [] h = elim h [ ]
size-some (x ∷ xs) h = by (eqb x 10)
  where
    by : (t : Bool) → 0 < pick t 1 (suc (line_size xs))
    by true = omega arith
    by false = omega arith

pub size-most : (l : List ℕ) → line_size l ≤ length l
unfolding line_size pick
size-most [] = omega arith
size-most (x ∷ xs) = by (eqb x 10) (size-most xs)
  where
    by : (t : Bool) → line_size xs ≤ length xs → pick t 1 (suc (line_size xs)) ≤ suc (length xs)
    by true h = omega arith
    by false h = omega arith

pub lines-some : (l : List ℕ) → 0 < length l → lines_of l ≡ take (line_size l) l ∷ lines_of (drop (line_size l) l)
unfolding lines_of line_size pick on_line
lines-some [] h = elim h [ ]
lines-some (x ∷ []) h = by (eqb x 10)
  where
    by : (t : Bool)
        → pick t ((x ∷ []) ∷ lines_of []) (on_line x (lines_of []))
        ≡ take (pick t 1 1) (x ∷ []) ∷ lines_of (drop (pick t 1 1) (x ∷ []))
    by true = refl
    by false = refl
lines-some (x ∷ y ∷ ys) h = by (eqb x 10) (lines-some (y ∷ ys) (omega arith))
  where
    by : (t : Bool)
        → lines_of (y ∷ ys) ≡ take (line_size (y ∷ ys)) (y ∷ ys) ∷ lines_of (drop (line_size (y ∷ ys)) (y ∷ ys))
        → pick t ((x ∷ []) ∷ lines_of (y ∷ ys)) (on_line x (lines_of (y ∷ ys)))
        ≡ take (pick t 1 (suc (line_size (y ∷ ys)))) (x ∷ y ∷ ys)
        ∷ lines_of (drop (pick t 1 (suc (line_size (y ∷ ys)))) (x ∷ y ∷ ys))
    by true e = refl
    by false e = ap (on_line x) e

pub no-lines : (l : List ℕ) → length l ≡ 0 → lines_of l ≡ []
unfolding lines_of
no-lines [] h = refl
no-lines (x ∷ xs) h = absurd (omega arith)

-- no more lines than bytes
pub lines-few : (l : List ℕ) → length (lines_of l) ≤ length l
unfolding lines_of pick on_line
lines-few [] = omega arith
lines-few (x ∷ xs) = by (eqb x 10) (on xs (lines_of xs) (lines-few xs)) (lines-few xs)
  where
    on : (xs : List ℕ) (ls : List (List ℕ)) → length ls ≤ length xs → length (on_line x ls) ≤ suc (length xs)
    on xs [] h = omega arith
    on xs (l ∷ ls) h = omega arith

    by : (t : Bool) → length (on_line x (lines_of xs)) ≤ suc (length xs) → length (lines_of xs) ≤ length xs
        → length (pick t ((x ∷ []) ∷ lines_of xs) (on_line x (lines_of xs))) ≤ suc (length xs)
    by true g h = omega arith
    by false g h = g

-- ---- The first line feed, as code finds it.
abbrev pub feed : ℕ → Bool
feed b = eqb b 10

size-found : (l : List ℕ) → position_or_len feed l < length l → line_size l ≡ position_or_len feed l + 1
unfolding line_size pick
size-found [] h = absurd (omega arith)
size-found (x ∷ xs) h = by (eqb x 10) h (size-found xs)
  where
    by : (t : Bool) → cond (not t) (1 + position_or_len feed xs) 0 < suc (length xs)
        → (position_or_len feed xs < length xs → line_size xs ≡ position_or_len feed xs + 1)
        → pick t 1 (suc (line_size xs)) ≡ cond (not t) (1 + position_or_len feed xs) 0 + 1
    by true h f = omega arith
    by false h f = let e = f (omega arith) in omega (arith, e)

size-whole : (l : List ℕ) → length l ≤ position_or_len feed l → line_size l ≡ length l
unfolding line_size pick
size-whole [] h = refl
size-whole (x ∷ xs) h = by (eqb x 10) h (size-whole xs)
  where
    by : (t : Bool) → suc (length xs) ≤ cond (not t) (1 + position_or_len feed xs) 0
        → (length xs ≤ position_or_len feed xs → line_size xs ≡ length xs)
        → pick t 1 (suc (line_size xs)) ≡ suc (length xs)
    by true h f = absurd (omega arith)
    by false h f = let e = f (omega arith) in omega (arith, e)

module _ (l : List ℕ) where
  abbrev Found : Option ℕ
  Found = cond (ltb (position_or_len feed l) (length l)) (Some (position_or_len feed l)) None

  pub feed-found : {k : ℕ} → Found ≡ Some k → k + 1 ≡ line_size l
  feed-found {k} e = by (ltb (position_or_len feed l) (length l)) refl e
    where
      by : (t : Bool) → ltb (position_or_len feed l) (length l) ≡ t
          → cond t (Some (position_or_len feed l)) None ≡ Some k → k + 1 ≡ line_size l
      by true q f =
          let h : position_or_len feed l ≡ k = cc in
          let g = size-found l (ltb-true (position_or_len feed l) (length l) q) in
          omega (arith, g, h)
      by false q f = let z : ◌≡◌ {A = ℕ} 0 1 = cc in absurd (omega arith)

  pub no-feed : Found ≡ None → length l ≡ line_size l
  no-feed e = by (ltb (position_or_len feed l) (length l)) refl e
    where
      by : (t : Bool) → ltb (position_or_len feed l) (length l) ≡ t
          → cond t (Some (position_or_len feed l)) None ≡ None → length l ≡ line_size l
      by true q f = let z : ◌≡◌ {A = ℕ} 0 1 = cc in absurd (omega arith)
      by false q f = sym (size-whole l (ltb-false (position_or_len feed l) (length l) q))

-- ---- One line, by its last byte.
module _ (item : Item) (l : List ℕ) where
  pub line-closed : {r : Bool} → get_or l (length l - 1) 0 ≡ 10 → r ≡ is_item item (take (length l - 1) l)
      → r ≡ item_good item l
  unfolding item_good ended line_text both
  line-closed e f = rw (eq-eqb _ 10 e) f

  pub line-open : (get_or l (length l - 1) 0 ≡ 10 → ⊥) → false ≡ item_good item l
  unfolding item_good ended both
  line-open e = rw (ne_eqb _ 10 e) refl

pub line-none : (item : Item) (l : List ℕ) → length l < 1 → false ≡ item_good item l
line-none item [] h = line-open item [] (λ e. omega (arith, e))
line-none item (x ∷ xs) h = absurd (omega arith)

-- ---- All lines.
pub all-good : (item : Item) (ls : List (List ℕ)) → list_all (item_good item) ls ≡ all_good item ls
unfolding all_good both
all-good item [] = refl
all-good item (l ∷ ls) = by (item_good item l) (all-good item ls)
  where
    by : (t : Bool) → list_all (item_good item) ls ≡ all_good item ls
        → (t && list_all (item_good item) ls) ≡ both t (all_good item ls)
    by true e = e
    by false e = refl

pub halves : (a b : Bool) → both a b ≡ true → (a ≡ true) × (b ≡ true)
unfolding both
halves true b e = (refl, e)
halves false b e = absurd (let w : ◌≡◌ {A = ℕ} 0 1 = cc in omega arith)

-- what all of them being good says of the first
pub good-first : (item : Item) {ls : List (List ℕ)} (x : List ℕ) (xs : List (List ℕ)) → ls ≡ x ∷ xs
    → all_good item ls ≡ true → (is_item item (line_text x) ≡ true) × (all_good item xs ≡ true)
unfolding all_good item_good
good-first item x xs e g =
    let h = halves (both (ended x) (is_item item (line_text x))) (all_good item xs) (rw e at g) in
    ((halves (ended x) (is_item item (line_text x)) h.0).1, h.1)
