-- What json's readers find of a name in an object is what the object's tree has: no member of that name, one, or more.
use Prim.Native.Nat.{ℕ, ◌+◌}
use mathlib.Core.Path.{◌≡◌, refl, sym, ◌∙◌, ap}
use mathlib.Core.Bool.{Bool, true, false}
use mathlib.Core.List.{List, [], ◌∷◌}
use native.Mathlib.Omega.{arith}
use borrow.Author.Tests.{eq-eqb}
use Rattle.laws.specs.Pick.{pick}
use Rattle.json_strings.specs.Text.{content_at, same_list}
use Rattle.json_values.specs.declared.Found.{Found}
use Rattle.json_values.specs.declared.Found.TheVariants.{At as Stands, Nothing, Twice}
use Rattle.json_values.specs.Members.{members_of, named, value_place, answer_of, count_of, tally, found_of}
use Rattle.json_laws.specs.Tree.{Json, Member, Named, no_member, this-one, another}
use Rattle.json_laws.proofs.At.{At, MemberAt, Each, none, one}
use Rattle.json_laws.proofs.Paired.{narrow, same-paired, is_same, same-is}

-- what was found, and the values of that name
pub data Finds (s : List ℕ) (d : ℕ) : Found → List Json → Type 0 where
  finds-none : Finds s d Nothing []
  finds-one : {v : ℕ} {t : Json} → At s d v t → Finds s d (Stands v) (t ∷ [])
  finds-more : {t u : Json} {ts : List Json} → Finds s d Twice (t ∷ u ∷ ts)

-- the values of a name, computed
unfoldable values_named : List ℕ → List Member → List Json
values_named w [] = []
values_named w (m ∷ ms) = pick (same_list m.name w) (m.value ∷ values_named w ms) (values_named w ms)

module _ (w : List ℕ) where
  values-on : (m : Member) (ms : List Member) (b : Bool) → same_list m.name w ≡ b
      → values_named w (m ∷ ms) ≡ pick b (m.value ∷ values_named w ms) (values_named w ms)
  unfolding values_named
  values-on m ms b e = rw e refl

  other : (x : List ℕ) → same_list x w ≡ false → x ≡ w → ⊥
  other x h e = let f = same-is w in let z : ◌≡◌ {A = ℕ} 0 1 = cc in omega arith

  not_same : (x : List ℕ) → (x ≡ w → ⊥) → same_list x w ≡ false
  not_same x n = by (same_list x w) refl
    where
      by : (b : Bool) → same_list x w ≡ b → same_list x w ≡ false
      by true e = absurd (n (is_same x w e))
      by false e = e

  are-named : (ms : List Member) → Named w ms (values_named w ms)
  unfolding values_named pick
  are-named [] = no_member
  are-named (m ∷ ms) = by (are-named ms) (same_list m.name w) refl
    where
      by : Named w ms (values_named w ms) → (b : Bool) → same_list m.name w ≡ b
          → Named w (m ∷ ms) (values_named w (m ∷ ms))
      by n true e = rw (values-on m ms true e) (this-one (is_same m.name w e) n)
      by n false e = rw (values-on m ms false e) (another (other m.name e) n)

  named-are : {ms : List Member} {ts : List Json} → Named w ms ts → ts ≡ values_named w ms
  unfolding values_named pick
  named-are no_member = refl
  named-are (this-one {m = m} {ms = ms} e n) =
      ap (λ (l : List Json). m.value ∷ l) (named-are n)
      ∙ sym (values-on m ms true (ap (λ l. same_list l w) e ∙ same-is w))
  named-are (another {m = m} {ms = ms} e n) = named-are n ∙ sym (values-on m ms false (not_same m.name e))

module _ (s : List ℕ) (d : ℕ) (w : List ℕ) (plain : narrow w ≡ true) where
  -- one turn of the count
  turn : (n v k : ℕ) (ks : List ℕ) (b : Bool) → named s w k ≡ b
      → tally s w n v (k ∷ ks) ≡ tally s w (count_of b n) (pick b (value_place s k) v) ks
  unfolding tally
  turn n v k ks b e = rw e refl

  -- a member has the name for the readers where it has it in the tree
  named-is : {k : ℕ} {m : Member} → MemberAt s d k m → named s w k ≡ same_list m.name w
  unfolding named pick
  named-is {k} p =
      rw (eq-eqb _ 34 p.quote) (sym (same-paired (content_at s (k + 1)) w plain) ∙ ap (λ l. same_list l w) p.name)

  twice-stays : (v : ℕ) (ks : List ℕ) → tally s w 2 v ks ≡ Twice
  unfolding tally answer_of count_of pick
  twice-stays v [] = refl
  twice-stays v (k ∷ ks) = by (λ u. twice-stays u ks) (named s w k) refl
    where
      by : ((u : ℕ) → tally s w 2 u ks ≡ Twice) → (b : Bool) → named s w k ≡ b → tally s w 2 v (k ∷ ks) ≡ Twice
      by more true q = turn 2 v k ks true q ∙ more (value_place s k)
      by more false q = turn 2 v k ks false q ∙ more v

  with-one : (v : ℕ) (t : Json) (ks : List ℕ) (ms : List Member) → At s d v t → Each (MemberAt s d) ks ms
      → Finds s d (tally s w 1 v ks) (t ∷ values_named w ms)
  unfolding tally answer_of count_of pick values_named
  with-one v t [] [] a none = finds-one a
  with-one v t [] (m ∷ ms) a e = elim e [ ]
  with-one v t (k ∷ ks) [] a e = elim e [ ]
  with-one v t (k ∷ ks) (m ∷ ms) a (one p r) = by (with-one v t ks ms a r) (named s w k) refl
    where
      by : Finds s d (tally s w 1 v ks) (t ∷ values_named w ms) → (b : Bool) → named s w k ≡ b
          → Finds s d (tally s w 1 v (k ∷ ks)) (t ∷ values_named w (m ∷ ms))
      by more true q =
          rw (turn 1 v k ks true q, twice-stays (value_place s k) ks, values-on w m ms true (sym (named-is p) ∙ q))
          finds-more
      by more false q = rw (turn 1 v k ks false q, values-on w m ms false (sym (named-is p) ∙ q)) more

  with_none : (v : ℕ) (ks : List ℕ) (ms : List Member) → Each (MemberAt s d) ks ms
      → Finds s d (tally s w 0 v ks) (values_named w ms)
  unfolding tally answer_of count_of pick values_named
  with_none v [] [] none = finds-none
  with_none v [] (m ∷ ms) e = elim e [ ]
  with_none v (k ∷ ks) [] e = elim e [ ]
  with_none v (k ∷ ks) (m ∷ ms) (one p r) = by (with_none v ks ms r) (named s w k) refl
    where
      by : Finds s d (tally s w 0 v ks) (values_named w ms) → (b : Bool) → named s w k ≡ b
          → Finds s d (tally s w 0 v (k ∷ ks)) (values_named w (m ∷ ms))
      by more true q =
          rw (turn 0 v k ks true q, values-on w m ms true (sym (named-is p) ∙ q))
          (with-one (value_place s k) m.value ks ms p.value r)
      by more false q = rw (turn 0 v k ks false q, values-on w m ms false (sym (named-is p) ∙ q)) more

  -- the values of the name, whichever they are
  pub members-found : (k : ℕ) (ms : List Member) (ts : List Json) → Each (MemberAt s d) (members_of s d k) ms
      → Named w ms ts → Finds s d (found_of s w d k) ts
  unfolding found_of
  members-found k ms ts e n = rw (named-are w n) (with_none 0 (members_of s d k) ms e)

-- there are values of any name, if none
pub record Values (w : List ℕ) (ms : List Member) : Type 0 where
  pub list : List Json
  pub are : Named w ms list

pub values_of : (w : List ℕ) (ms : List Member) → Values w ms
values_of w ms = record { list = values_named w ms; are = are-named w ms }
