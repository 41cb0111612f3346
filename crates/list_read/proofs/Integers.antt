-- Laws about integers in a text: where a number ends, and which bytes it has.
use Rattle.std.specs.Prelude.{None, Option, Some}
use Prim.Native.Nat.{ℕ, zero, suc, ◌+◌, ◌-◌, ◌≤◌, ◌<◌}
use mathlib.Core.Path.{◌≡◌, refl, sym, ◌∙◌}
use mathlib.Core.Bool.{Bool, true, false, not, ◌||◌, true≢false}
use mathlib.Core.List.{List, [], ◌∷◌}
use native.Mathlib.Numerals.{add-one}
use native.Mathlib.Omega.{arith}
use lib.Dec.{eqb}
use lib.ListN.{length, get_or, take, drop, drop_of_length-le, length-drop, get_or-eq_default}
use lib.Seq.{drop-cons, length-take-le}
use borrow.Author.Tests.{eq-eqb, ne_eqb, eqb-true}
use Rattle.laws.specs.Ascii.{ascii}
use Rattle.laws.specs.Pick.{pick, either, both}
use Rattle.laws.proofs.Split.{split}
use Rattle.json_tokens.specs.Scan.{then, digit, past_while}
use Rattle.json_tokens.specs.Number.{some_digits, past_minus, whole_at, integer_at, fraction_at, signed_at, exponent_at, number_at, past_sign}
use Rattle.json_tokens.proofs.Picks.{inside}
use Rattle.json_tokens.proofs.Ahead.{of-pick, of-pick-if, ahead-number}
use Rattle.json_tokens.proofs.Turns.{Ahead}
use Rattle.json_tokens.proofs.While.{while-more, while-ahead, while-within, while-end}
use Rattle.json_strings.specs.Text.{same_list}
use Rattle.json_text.specs.Octets.{octets, none, plain}
use Rattle.json_values.specs.declared.Found.{Found}
use Rattle.json_values.specs.declared.Found.TheVariants.{At, Nothing, Twice}
use Rattle.std.specs.List.{list_any}
use Rattle.list_read.specs.Server.{is_mark, unmarked, whole_of, up_to, version_by, is_some}

-- ---- Where a number ends: what holds of the end of its integer, and of the end of any digits further on, holds of its
-- own end.
abbrev Ends : (ℕ → Type 0) → Option ℕ → Type 0
Ends P (Some e) = P e
Ends P None = Unit {0}

ends-then : (P : ℕ → Type 0) (r : Option ℕ) (f : ℕ → Option ℕ) → Ends P r → ((e : ℕ) → P e → Ends P (f e)) → Ends P (then r f)
unfolding then
ends-then P (Some e) f h g = g e h
ends-then P None f h g = tt

module _ (s : List ℕ) where
  module _ (P : ℕ → Type 0) (on : (j k : ℕ) → P j → j ≤ k → Ends P (some_digits s k)) where
    ends-fraction : (k : ℕ) → P k → Ends P (fraction_at s k)
    unfolding fraction_at
    ends-fraction k h = of-pick (Ends P) _ (on k (k + 1) h (omega arith)) h

    ends-signed : (j k : ℕ) → P j → j ≤ k → Ends P (signed_at s k)
    unfolding signed_at past_sign
    ends-signed j k h i = of-pick (λ n. Ends P (some_digits s n)) _ (on j (k + 1) h (omega arith)) (on j k h i)

    ends-exponent : (k : ℕ) → P k → Ends P (exponent_at s k)
    unfolding exponent_at
    ends-exponent k h = of-pick (Ends P) _ (ends-signed k (k + 1) h (omega arith)) h

    ends-number : (k : ℕ) → Ends P (integer_at s k) → Ends P (number_at s k)
    unfolding number_at
    ends-number k i =
        ends-then P _ _ i (λ e h. ends-then P _ _ (ends-fraction e h) (λ f g. ends-exponent f g))

  -- ---- No number ends past the text.
  abbrev Within : ℕ → Type 0
  Within e = e ≤ length s

  within-digits : (k : ℕ) → Ends Within (some_digits s k)
  unfolding some_digits pick
  within-digits k = by (eqb (past_while digit s k) k) refl
    where
      by : (b : Bool) → eqb (past_while digit s k) k ≡ b → Ends Within (pick b None (Some (past_while digit s k)))
      by true e = tt
      by false e =
          split k (length s) (λ h. while-within digit s k h)
          (λ h. absurd (true≢false (sym (eq-eqb _ _ (sym (while-end digit s k (omega arith)))) ∙ e)))

  within-whole : (k : ℕ) → Ends Within (whole_at s k)
  unfolding whole_at
  within-whole k =
      of-pick-if (Ends Within) _ (λ t. omega (arith, inside {n = 48} s refl (eqb-true _ _ t) tt)) (within-digits k)

  within-integer : (k : ℕ) → Ends Within (integer_at s k)
  unfolding integer_at
  within-integer k = within-whole (past_minus s k)

  within-number : (k : ℕ) → Ends Within (number_at s k)
  within-number k = ends-number Within (λ i j h g. within-digits j) k (within-integer k)

  module _ {x : Option ℕ} (v : ℕ) {e : ℕ} (p : x ≡ number_at s v) (q : x ≡ Some e) where
    pub number-start : v ≤ e
    number-start = let h : Ahead v (Some e) = rw (sym p ∙ q) at (ahead-number s v) in h

    pub number-end : e ≤ length s
    number-end = let h : Ends Within (Some e) = rw (sym p ∙ q) at (within-number v) in h

-- ---- No byte is a mark.
pub unmarked-any : (x : List ℕ) → not (list_any is_mark x) ≡ unmarked x
unfolding unmarked pick
unmarked-any [] = refl
unmarked-any (b ∷ bs) = by (is_mark b) (unmarked-any bs)
  where
    by : (t : Bool) → not (list_any is_mark bs) ≡ unmarked bs
        → not (t || list_any is_mark bs) ≡ pick t false (unmarked bs)
    by true e = refl
    by false e = e

-- ---- The digit 1.
pub one-not : (x : List ℕ) → (length x ≡ 1 → ⊥) → false ≡ same_list x (ascii "1")
unfolding same_list both
one-not [] h = refl
one-not (a ∷ []) h = absurd (h refl)
one-not (a ∷ b ∷ l) h = by (eqb a 49)
  where
    by : (t : Bool) → false ≡ both t false
    by true = refl
    by false = refl

pub one-is : (x : List ℕ) → length x ≡ 1 → eqb (get_or x 0 0) 49 ≡ same_list x (ascii "1")
unfolding same_list both
one-is [] h = absurd (omega arith)
one-is (a ∷ []) h = by (eqb a 49)
  where
    by : (t : Bool) → t ≡ both t true
    by true = refl
    by false = refl
one-is (a ∷ b ∷ l) h = absurd (omega arith)

-- what has a mark is not it
whole-some : (b : Bool) (x : List ℕ) → b ≡ is_some (pick b (octets x) none)
unfolding is_some pick
whole-some true x = refl
whole-some false x = refl

mark-one : (x : List ℕ) → unmarked x ≡ false → false ≡ same_list x (ascii "1")
unfolding unmarked is_mark pick either
mark-one [] e = absurd (true≢false e)
mark-one (a ∷ []) e = by (eqb a 49) refl
  where
    by : (b : Bool) → eqb a 49 ≡ b → false ≡ same_list (a ∷ []) (ascii "1")
    by true g = absurd (true≢false (rw (eqb-true a 49 g) at e))
    by false g = one-else g
      where
        one-else : eqb a 49 ≡ false → false ≡ same_list (a ∷ []) (ascii "1")
        one-else h = sym h ∙ one-is (a ∷ []) refl
mark-one (a ∷ b ∷ l) e = one-not (a ∷ b ∷ l) (λ h. omega arith)

whole-one : (x : List ℕ) → same_list x (ascii "1") ≡ same_list (plain (whole_of x)) (ascii "1")
unfolding whole_of pick
whole-one x = by (unmarked x) refl
  where
    by : (b : Bool) → unmarked x ≡ b → same_list x (ascii "1") ≡ same_list (plain (pick b (octets x) none)) (ascii "1")
    by true e = refl
    by false e = sym (mark-one x e) ∙ one-not [] (λ h. omega arith)

-- ---- What the first two bytes tell from 1.
first-none : (n : ℕ) → false ≡ same_list (take n []) (ascii "1")
unfolding same_list
first-none zero = refl
first-none (suc n) = refl

first-cons : (n x : ℕ) (l : List ℕ) → (x ≡ 49 → ⊥) → false ≡ same_list (take n (x ∷ l)) (ascii "1")
unfolding same_list both
first-cons zero x l h = refl
first-cons (suc n) x l h = rw (ne_eqb x 49 h) refl

module _ (s : List ℕ) (v : ℕ) where
  first-other : (n : ℕ) → (get_or s v 0 ≡ 49 → ⊥) → false ≡ same_list (take n (drop v s)) (ascii "1")
  first-other n h =
      split (suc v) (length s) (λ i. rw (drop-cons s v 0 i) (first-cons n _ _ h))
      (λ o. let z : length s ≤ v = omega arith in rw (drop_of_length-le s z) (first-none n))

  pub ours-other : {b : ℕ} → b ≡ get_or s v 0 → (b ≡ 49 → ⊥) → false ≡ same_list (plain (up_to s v (number_at s v))) (ascii "1")
  unfolding up_to
  ours-other e h = by (number_at s v)
    where
      by : (r : Option ℕ) → false ≡ same_list (plain (up_to s v r)) (ascii "1")
      by (Some f) = first-other (f - v) (λ z. h (e ∙ z)) ∙ whole-one _
      by None = one-not [] (λ q. omega arith)

  module _ (one : get_or s v 0 ≡ 49) (d : digit (get_or s (v + 1) 0) ≡ true) where
    second-inside : v + 1 < length s
    unfolding both
    second-inside =
        split (suc (v + 1)) (length s) (λ h. h)
        (λ o. absurd (true≢false (sym (rw (get_or-eq_default s 0 {n = v + 1} (omega arith)) at d))))

    one-digit : digit (get_or s v 0) ≡ true
    unfolding both
    one-digit = rw one refl

    two_digits : v + 2 ≤ past_while digit s v
    two_digits =
        omega (
          arith,
          while-more digit s v (inside {n = 49} s refl one tt) one-digit,
          while-more digit s (v + 1) second-inside d,
          while-ahead digit s (v + 1 + 1),
        )

    abbrev Far : ℕ → Type 0
    Far e = v + 2 ≤ e

    far-digits : (j k : ℕ) → Far j → j ≤ k → Ends Far (some_digits s k)
    unfolding some_digits
    far-digits j k h i = of-pick (Ends Far) _ tt (omega (arith, while-ahead digit s k))

    far-whole : Ends Far (whole_at s v)
    unfolding whole_at some_digits
    far-whole =
        of-pick-if (Ends Far) _ (λ t. let z : get_or s v 0 ≡ 48 = eqb-true _ _ t in absurd (omega arith))
        (of-pick (Ends Far) _ tt two_digits)

    far-integer : Ends Far (integer_at s v)
    unfolding integer_at past_minus
    far-integer =
        of-pick-if (λ n. Ends Far (whole_at s n)) _
        (λ t. let z : get_or s v 0 ≡ 45 = eqb-true _ _ t in absurd (omega arith)) far-whole

    longer-not : false ≡ same_list (plain (up_to s v (number_at s v))) (ascii "1")
    unfolding up_to
    longer-not = by (number_at s v) (ends-number s Far far-digits v far-integer) (within-number s v)
      where
        by : (r : Option ℕ) → Ends Far r → Ends (Within s) r → false ≡ same_list (plain (up_to s v r)) (ascii "1")
        by (Some f) h g =
            let n = length-take-le (f - v) (drop v s) (omega (arith, length-drop v s)) in
            one-not (take (f - v) (drop v s)) (λ q. omega (arith, n)) ∙ whole-one _
        by None h g = one-not [] (λ q. omega arith)

  pub ours-longer : {b c : ℕ} {r : Bool} → b ≡ get_or s v 0 → b ≡ 49 → c ≡ get_or s (v + 1) 0 → r ≡ digit c → r ≡ true
      → false ≡ same_list (plain (up_to s v (number_at s v))) (ascii "1")
  ours-longer e h f d y = longer-not (sym e ∙ h) (rw (sym f) (sym d ∙ y))

module _ (s : List ℕ) (v : ℕ) {x : Option ℕ} (p : x ≡ number_at s v) where
  pub integer-none : x ≡ None → false ≡ is_some (up_to s v (number_at s v))
  unfolding up_to is_some
  integer-none q = rw (sym p ∙ q) refl

  pub ours-none : x ≡ None → false ≡ same_list (plain (up_to s v (number_at s v))) (ascii "1")
  unfolding up_to
  ours-none q = rw (sym p ∙ q) (one-not [] (λ h. omega arith))

  module _ {e : ℕ} {r : Bool} (q : x ≡ Some e) where
    pub integer-some : r ≡ unmarked (take (e - v) (drop v s)) → r ≡ is_some (up_to s v (number_at s v))
    unfolding up_to whole_of
    integer-some g = rw (sym p ∙ q) (g ∙ whole-some _ _)

    pub ours-some : r ≡ same_list (take (e - v) (drop v s)) (ascii "1")
        → r ≡ same_list (plain (up_to s v (number_at s v))) (ascii "1")
    unfolding up_to
    ours-some g = rw (sym p ∙ q) (g ∙ whole-one _)

pub ruleset integers = (integer-none, ours-none, integer-some, ours-some, number-start, number-end)

-- ---- A member.
module _ (s : List ℕ) (f : Found) where
  pub version-at : {v : ℕ} {r : Bool} → f ≡ At v → r ≡ is_some (up_to s v (number_at s v)) → r ≡ is_some (version_by s f)
  unfolding version_by
  version-at h g = rw h g

  pub version-none : f ≡ Nothing → false ≡ is_some (version_by s f)
  unfolding version_by is_some
  version-none h = rw h refl

  pub version-twice : f ≡ Twice → false ≡ is_some (version_by s f)
  unfolding version_by is_some
  version-twice h = rw h refl

  pub one_at : {v : ℕ} {r : Bool} → f ≡ At v → r ≡ same_list (plain (up_to s v (number_at s v))) (ascii "1")
      → r ≡ same_list (plain (version_by s f)) (ascii "1")
  unfolding version_by
  one_at h g = rw h g

  pub one_none : f ≡ Nothing → false ≡ same_list (plain (version_by s f)) (ascii "1")
  unfolding version_by
  one_none h = rw h (one-not [] (λ q. omega arith))

  pub one-twice : f ≡ Twice → false ≡ same_list (plain (version_by s f)) (ascii "1")
  unfolding version_by
  one-twice h = rw h (one-not [] (λ q. omega arith))

pub ruleset versions = (version-at, version-none, version-twice, one_at, one_none, one-twice)
