-- Laws about what a string holds, for a loop over its characters.
use Rattle.std.specs.Prelude.{None, Option, Some}
use Rattle.std.specs.Option.{unwrap_or}
use Rattle.std.proofs.lemmas.Option.{none-some}
use Prim.Native.Nat.{ℕ, zero, suc, ◌+◌, ◌-◌, ◌≤◌, ◌<◌}
use mathlib.Core.Path.{◌≡◌, refl, sym, ◌∙◌, ap}
use mathlib.Core.Bool.{Bool, true, false}
use mathlib.Core.List.{List, [], ◌∷◌}
use native.Mathlib.Omega.{arith}
use native.Mathlib.Numerals.{add-one}
use borrow.Author.Tests.{eq-eqb, ne_eqb, eqb-true, eqb-false}
use lib.ListN.{length, get_or, drop, drop_of_length-le}
use lib.Dec.{eqb, leb, leb-zero, leb-suc-zero, leb-suc-suc}
use lib.Seq.{drop-cons, drop-nil}
use Rattle.laws.specs.Pick.{pick, both}
use Rattle.json_strings.specs.declared.Unit.{Unit}
use Rattle.json_strings.specs.declared.Unit.TheVariants.{Code, Close, Ill}
use Rattle.json_tokens.specs.Walk.{walked}
use Rattle.json_strings.specs.Text.{unit_at, step_of, unit_step, codes_at, content_at, same_list, told}
use Rattle.json_tokens.proofs.Turns.{starts_more, starts-end, starts-wrong, turn-falls, walked_more, walked_end}
use Rattle.json_tokens.proofs.Turns.{walked-wrong}
use Rattle.json_strings.proofs.Ahead.{onto-unit, forth-unit}

-- ---- A number that is 0 where there is none.
pub told-zero : (x : ℕ) → 0 ≡ x → None ≡ told x
unfolding pick
told-zero x e = rw (sym e) refl

pub told-none : {r : Option ℕ} (x : ℕ) → r ≡ told x → r ≡ None → x ≡ 0
unfolding pick
told-none x e h = by (eqb x 0) refl (sym e ∙ h)
  where
    by : (b : Bool) → eqb x 0 ≡ b → pick b None (Some x) ≡ None → x ≡ 0
    by true q z = eqb-true x 0 q
    by false q z = absurd (none-some x (sym z))

pub told-some : {r : Option ℕ} {e : ℕ} (x : ℕ) → r ≡ told x → r ≡ Some e → (e ≡ x) × (x ≡ 0 → ⊥)
unfolding pick
told-some {e = n} x q h = by (eqb x 0) refl (sym q ∙ h)
  where
    by : (b : Bool) → eqb x 0 ≡ b → pick b None (Some x) ≡ Some n → (n ≡ x) × (x ≡ 0 → ⊥)
    by true f z = absurd (none-some n z)
    by false f z = (sym (ap (λ (o : Option ℕ). unwrap_or o 0) z), eqb-false x 0 f)

pub end_none : {e : ℕ} → e ≡ 0 → None ≡ told e
unfolding pick
end_none h = rw h refl

pub end-past : {e : ℕ} → (e ≡ 0 → ⊥) → Some e ≡ told e
unfolding pick
end-past {e} h = rw (ne_eqb e 0 h) refl

module _ (s : List ℕ) {u : Unit} (k : ℕ) (e : u ≡ unit_at s k) where
  turn : unit_step s k ≡ step_of u
  unfolding unit_step
  turn = ap step_of (sym e)

  pub content-code : {c j : ℕ} → u ≡ Code c j → content_at s k ≡ c ∷ content_at s j
  unfolding content_at codes_at
  content-code h = rw (starts_more (length s) (unit_step s) (forth-unit s) k refl (turn ∙ ap step_of h)) (rw (sym e
      ∙ h) refl)

  pub content-close : {j : ℕ} → u ≡ Close j → content_at s k ≡ []
  unfolding content_at codes_at
  content-close h = rw (starts-end (length s) (unit_step s) k refl (turn ∙ ap step_of h)) (rw (sym e ∙ h) refl)

  pub content-ill : u ≡ Ill → content_at s k ≡ []
  unfolding content_at codes_at
  content-ill h = rw (starts-wrong (length s) (unit_step s) k refl (turn ∙ ap step_of h)) (rw (sym e ∙ h) refl)

  pub content-other : ((c j : ℕ) → u ≡ Code c j → ⊥) → content_at s k ≡ []
  content-other h = by u refl
    where
      by : (v : Unit) → u ≡ v → content_at s k ≡ []
      by (Code c j) q = absurd (h c j q)
      by (Close j) q = content-close q
      by Ill q = content-ill q

  -- a character takes a byte or more
  pub content-falls : {c j : ℕ} → u ≡ Code c j → length s - j < length s - k
  content-falls h = turn-falls (length s) (unit_step s) (forth-unit s) k refl (turn ∙ ap step_of h)

  -- ---- The same characters, on the way to the end of the string.
  pub walked-code : {c j : ℕ} → u ≡ Code c j → walked (length s) (unit_step s) j ≡ walked (length s) (unit_step s) k
  walked-code h = walked_more (length s) (unit_step s) (forth-unit s) k refl (turn ∙ ap step_of h)

  pub walked-close : {j : ℕ} → u ≡ Close j → walked (length s) (unit_step s) k ≡ told j
  walked-close {j} h =
      let far : k < j = rw (sym e ∙ h) at (onto-unit s k) in
      sym (walked_end (length s) (unit_step s) k refl (turn ∙ ap step_of h)) ∙ end-past (λ z. omega arith)

  pub walked-ill : u ≡ Ill → walked (length s) (unit_step s) k ≡ told 0
  walked-ill h = sym (walked-wrong (length s) (unit_step s) k refl (turn ∙ ap step_of h)) ∙ end_none refl

-- ---- A name, compared with a word.
ended : (w : List ℕ) (i : ℕ) → leb (length w) i ≡ same_list [] (drop i w)
unfolding same_list
ended [] i = leb-zero i ∙ rw (drop-nil {A = ℕ} i) refl
ended (y ∷ ys) zero = leb-suc-zero (length ys)
ended (y ∷ ys) (suc i) = leb-suc-suc (length ys) i ∙ ended ys i

module _ (s w : List ℕ) {u : Unit} (k i : ℕ) (e : u ≡ unit_at s k) where
  pub name-more : {c j : ℕ} → u ≡ Code c j → i < length w → c ≡ get_or w i 0
      → same_list (content_at s j) (drop (i + 1) w) ≡ same_list (content_at s k) (drop i w)
  unfolding same_list both
  name-more h g q = rw (content-code s k e h, add-one i, drop-cons w i 0 g) (simp (eq-eqb _ _ q))

  pub name-differs : {c j : ℕ} → u ≡ Code c j → i < length w → (c ≡ get_or w i 0 → ⊥)
      → false ≡ same_list (content_at s k) (drop i w)
  unfolding same_list both
  name-differs h g q = rw (content-code s k e h, drop-cons w i 0 g) (simp (ne_eqb _ _ q))

  pub name-longer : {c j : ℕ} → u ≡ Code c j → length w ≤ i → false ≡ same_list (content_at s k) (drop i w)
  unfolding same_list
  name-longer h g = rw (content-code s k e h, drop_of_length-le w g) refl

  pub name-end : content_at s k ≡ [] → leb (length w) i ≡ same_list (content_at s k) (drop i w)
  name-end h = rw h (ended w i)
