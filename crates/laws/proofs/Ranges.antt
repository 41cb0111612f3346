-- Ranges of numbers, as the library's `any`, `all` and `position` go over them, in this project's words.
use Prim.Native.Nat.{ℕ, zero, suc, ◌+◌, ◌≤◌, ◌<◌}
use mathlib.Core.Path.{◌≡◌, refl, sym, ◌∙◌, ap, ap₂}
use mathlib.Core.Logic.{⊎_elim}
use mathlib.Core.Bool.{Bool, true, false, not, cond, ◌||◌, ◌&&◌}
use mathlib.Core.List.{List, [], ◌∷◌}
use native.Mathlib.Nat.{eq-or-lt_of_le}
use native.Mathlib.Omega.{arith}
use borrow.Author.Tests.{ltb-true, ltb-false, lt-ltb}
use lib.Dec.{ltb}
use lib.ListN.{length}
use Rattle.std.specs.Prelude.{None, Some, position}
use Rattle.std.specs.Option.{unwrap_or}
use Rattle.std.specs.List.{list_any, list_all, position_or_len, range_with_len}
use Rattle.std.proofs.lemmas.List.FromFn.{length-range_with_len}
use Rattle.laws.specs.Least.{least, somewhere}
use Rattle.laws.proofs.Least.{least-front, least-le, least-same, somewhere-same}

-- one place more, at the front
pub somewhere-front : (p : ℕ → Bool) (n : ℕ) → somewhere p (suc n) ≡ (p 0 || somewhere (λ k. p (suc k)) n)
unfolding somewhere
somewhere-front p n = ap (λ m. ltb m (suc n)) (least-front p n) ∙ by (p 0) (least (λ k. p (suc k)) n)
  where
    by : (t : Bool) (m : ℕ) → ltb (cond t 0 (suc m)) (suc n) ≡ (t || ltb m n)
    by true m = lt-ltb 0 (suc n) (omega arith)
    by false m = grind arith

range_from : (p : ℕ → Bool) (a n : ℕ) → list_any p (range_with_len a n) ≡ somewhere (λ k. p (a + k)) n
unfolding somewhere least
range_from p a zero = refl
range_from p a (suc n) =
    let here : a ≡ a + 0 = omega arith in
    let more : list_any p (range_with_len (a + 1) n) ≡ somewhere (λ k. p (a + suc k)) n
    = range_from p (a + 1) n ∙ somewhere-same (λ k. p (a + 1 + k)) (λ k. p (a + suc k)) n (λ k h. ap p (omega arith)) in
    ap₂ (λ t u. t || u) (ap p here) more ∙ sym (somewhere-front (λ k. p (a + k)) n)

pub range_somewhere : (p : ℕ → Bool) (n : ℕ) → list_any p (range_with_len 0 n) ≡ somewhere p n
range_somewhere p n = range_from p 0 n ∙ somewhere-same _ _ n (λ k h. ap p (omega arith))

pub all-any : (p : ℕ → Bool) (w : List ℕ) → list_all p w ≡ not (list_any (λ b. not (p b)) w)
all-any p [] = refl
all-any p (x ∷ w) = by (p x) (all-any p w)
  where
    by : (t : Bool) → list_all p w ≡ not (list_any (λ b. not (p b)) w)
        → (t && list_all p w) ≡ not (not t || list_any (λ b. not (p b)) w)
    by true e = e
    by false e = refl

pub range_nowhere : (p : ℕ → Bool) (n : ℕ) → list_all p (range_with_len 0 n) ≡ not (somewhere (λ k. not (p k)) n)
range_nowhere p n = all-any p _ ∙ ap not (range_somewhere (λ k. not (p k)) n)

-- all of the n numbers from a on pass exactly where each does
pub range-passes : (p : ℕ → Bool) (a n : ℕ) → list_all p (range_with_len a n) ≡ true
    → (k : ℕ) → a ≤ k → k < a + n → p k ≡ true
range-passes p a zero e k g h = absurd (omega arith)
range-passes p a (suc n) e k g h = by (p a) refl e (λ q l. range-passes p (a + 1) n q k l (omega arith))
  where
    by : (t : Bool) → p a ≡ t → (t && list_all p (range_with_len (a + 1) n)) ≡ true
        → (list_all p (range_with_len (a + 1) n) ≡ true → a + 1 ≤ k → p k ≡ true) → p k ≡ true
    by true f q more = ⊎_elim (λ l. ap p (sym l) ∙ f) (λ l. more q (omega arith)) (eq-or-lt_of_le g)
    by false f q more = cc

pub passes-range : (p : ℕ → Bool) (a n : ℕ) → ((k : ℕ) → a ≤ k → k < a + n → p k ≡ true)
    → list_all p (range_with_len a n) ≡ true
passes-range p a zero f = refl
passes-range p a (suc n) f =
    ap₂ (λ t u. t && u) (f a (omega arith) (omega arith)) (passes-range p (a + 1) n (λ k g h. f k (omega arith) (omega arith)))

-- the first place of a list whose element passes, and none
module _ {X : Type 0} (p : X → Bool) (x : List X) where
  pub place : (t : Bool) {k : ℕ} → cond t (Some (position_or_len p x)) None ≡ Some k → (t ≡ true) × (position_or_len p x ≡ k)
  place true e = (refl, cc)
  place false e = cc

  pub no-place : (t : Bool) → cond t (Some (position_or_len p x)) None ≡ None → t ≡ false
  no-place true e = cc
  no-place false e = refl

places_from : (p : ℕ → Bool) (a n : ℕ) → position_or_len p (range_with_len a n) ≡ least (λ k. p (a + k)) n
unfolding least
places_from p a zero = refl
places_from p a (suc n) =
    let here : a ≡ a + 0 = omega arith in
    let more : position_or_len p (range_with_len (a + 1) n) ≡ least (λ k. p (a + suc k)) n
    = places_from p (a + 1) n ∙ least-same (λ k. p (a + 1 + k)) (λ k. p (a + suc k)) n (λ k h. ap p (omega arith)) in
    by (p a) (position_or_len p (range_with_len (a + 1) n))
    ∙ ap₂ (λ t m. cond t 0 (suc m)) (ap p here) more ∙ sym (least-front (λ k. p (a + k)) n)
  where
    by : (t : Bool) (m : ℕ) → cond (not t) (1 + m) 0 ≡ cond t 0 (suc m)
    by true m = refl
    by false m = omega arith

-- the first number below n that passes
module _ (p : ℕ → Bool) (n : ℕ) where
  places : position_or_len p (range_with_len 0 n) ≡ least p n
  places = places_from p 0 n ∙ least-same _ _ n (λ k h. ap p (omega arith))

  pub found-least : {k : ℕ} → position p (range_with_len 0 n) ≡ Some k → (k ≡ least p n) × (k < n)
  found-least {k} e =
      let l = position_or_len p (range_with_len 0 n) in
      let h = place p (range_with_len 0 n) (ltb l (length (range_with_len 0 n))) e in
      (sym h.1 ∙ places, rw (h.1, length-range_with_len 0 n) at (ltb-true _ _ h.0))

  pub unfound-least : position p (range_with_len 0 n) ≡ None → least p n ≡ n
  unfound-least e =
      let l = position_or_len p (range_with_len 0 n) in
      let h = ltb-false l _ (no-place p (range_with_len 0 n) (ltb l (length (range_with_len 0 n))) e) in
      let m = least-le p n in
      omega (arith, rw (length-range_with_len 0 n) at h, places)

  -- `position`, with the bound where no number passes, is the first number that passes
  pub range_least : unwrap_or (position p (range_with_len 0 n)) n ≡ least p n
  range_least = by (ltb (position_or_len p (range_with_len 0 n)) (length (range_with_len 0 n))) refl
    where
      by : (t : Bool) → ltb (position_or_len p (range_with_len 0 n)) (length (range_with_len 0 n)) ≡ t
          → unwrap_or (cond t (Some (position_or_len p (range_with_len 0 n))) None) n ≡ least p n
      by true e = places
      by false e =
          let h = ltb-false (position_or_len p (range_with_len 0 n)) _ e in
          let m = least-le p n in
          omega (arith, rw (length-range_with_len 0 n) at h, places)
