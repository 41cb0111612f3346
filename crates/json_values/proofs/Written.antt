-- An object as we write it, of members whose values are strings, with no blanks and no escapes: what `find` finds in
-- it.
use Rattle.std.specs.Prelude.{Some}
use Prim.Native.Nat.{ℕ, suc, ◌+◌}
use mathlib.Core.Path.{◌≡◌, refl, sym, ◌∙◌, ap}
use mathlib.Core.List.{List, [], ◌∷◌, ◌++◌}
use native.Mathlib.Omega.{arith}
use lib.ListN.{length}
use Rattle.laws.specs.Pick.{pick, either}
use Rattle.json_tokens.specs.declared.Step.TheVariants.{More}
use Rattle.json_values.specs.declared.Found.{Found}
use Rattle.json_tokens.specs.Scan.{then, after}
use Rattle.json_tokens.specs.Walk.{starts}
use Rattle.json_strings.specs.Text.{same_list}
use Rattle.json_values.specs.Value.{value_at, member_step}
use Rattle.json_values.specs.Members.{named, place_of, value_place, answer_of, count_of, tally}
use Rattle.json_tokens.proofs.Turns.{starts_more, starts-end}
use Rattle.json_values.proofs.Ahead.{forth-members}
use Rattle.json_values.proofs.Finds.{tally-more}
use Rattle.json_tokens.proofs.Stands.{Stands, stands-right, stands-next, stands_at_lem}
use Rattle.json_strings.proofs.Plain.{Each, string-reads, string-content}
use Rattle.json_values.proofs.Stands.{value-string, member-reads}
use Rattle.json_tokens.proofs.Stands.{colon-reads, close-reads, comma-reads}

pub record Member : Type 0 where
  pub name : List ℕ
  pub value : List ℕ

-- a member, and then the text t
abbrev pub member_text : Member → List ℕ → List ℕ
member_text m t = 34 ∷ (m.name ++ 34 ∷ 58 ∷ 34 ∷ (m.value ++ 34 ∷ t))

-- members with commas between them, the closing brace, and then the text t
abbrev pub members_text : Member → List Member → List ℕ → List ℕ
members_text m [] t = member_text m (125 ∷ t)
members_text m (n ∷ ms) t = member_text m (44 ∷ members_text n ms t)

-- its names and values need no escapes
pub data Clean : Member → List Member → Type 0 where
  last : {m : Member} → Each m.name → Each m.value → Clean m []
  more : {m n : Member} {ms : List Member} → Each m.name → Each m.value → Clean n ms → Clean m (n ∷ ms)

-- the member of a name, among the members that are written from k on
abbrev pub tally_text : List ℕ → ℕ → ℕ → ℕ → Member → List Member → Found
tally_text w n v k m [] =
    answer_of (count_of (same_list m.name w) n) (pick (same_list m.name w) (k + length m.name + 3) v)
tally_text w n v k m (o ∷ ms) =
    tally_text w (count_of (same_list m.name w) n) (pick (same_list m.name w) (k + length m.name + 3) v)
    (k + length m.name + length m.value + 6) o ms

module _ {s : List ℕ} {k : ℕ} (d : ℕ) (w : List ℕ) (m : Member) (a : Each m.name) (b : Each m.value) (t : List ℕ)
    (h : Stands s k (member_text m t)) where
  value-stands : Stands s (k + length m.name + 3) (34 ∷ (m.value ++ 34 ∷ t))
  value-stands =
      let e : k + 1 + length m.name + 1 + 1 ≡ k + length m.name + 3 = omega arith in
      rw e at (stands-next (stands-next (stands-right m.name (34 ∷ 58 ∷ 34 ∷ (m.value ++ 34 ∷ t)) (stands-next h))))

  rest-stands : Stands s (k + length m.name + length m.value + 5) t
  rest-stands =
      let e : k + length m.name + 3 + 1 + length m.value + 1 ≡ k + length m.name + length m.value + 5 =
      omega arith in
      rw e at (stands-next (stands-right m.value (34 ∷ t) (stands-next value-stands)))

  member-step : member_step s (value_at s d) k ≡ after s 125 (k + length m.name + length m.value + 5)
  unfolding either
  member-step =
      let e : k + length m.name + 3 + length m.value + 2 ≡ k + length m.name + length m.value + 5 =
      omega arith in
      member-reads (value_at s d) m.name 34 (m.value
      ++ 34 ∷ t) a h refl (value-string d m.value t b value-stands ∙ ap Some e)

  named-is : named s w k ≡ same_list m.name w
  unfolding named pick
  named-is =
      rw (stands_at_lem h) (ap (λ l. same_list l w) (string-content m.name (58 ∷ 34 ∷ (m.value
      ++ 34 ∷ t)) a (stands-next h)))

  colon-stands : Stands s (k + length m.name + 2) (58 ∷ 34 ∷ (m.value ++ 34 ∷ t))
  colon-stands =
      let e : k + 1 + length m.name + 1 ≡ k + length m.name + 2 = omega arith in
      rw e at (stands-next (stands-right m.name (34 ∷ 58 ∷ 34 ∷ (m.value ++ 34 ∷ t)) (stands-next h)))

  place_is : value_place s k ≡ k + length m.name + 3
  unfolding value_place place_of then either
  place_is =
      rw (string-reads m.name (58 ∷ 34 ∷ (m.value ++ 34 ∷ t)) a h, colon-reads colon-stands refl) (omega arith)

-- what follows a comma opens with a quote
inner : Member → List Member → List ℕ → List ℕ
inner m [] t = m.name ++ 34 ∷ 58 ∷ 34 ∷ (m.value ++ 34 ∷ 125 ∷ t)
inner m (n ∷ ms) t = m.name ++ 34 ∷ 58 ∷ 34 ∷ (m.value ++ 34 ∷ 44 ∷ members_text n ms t)

opens : {s : List ℕ} {k : ℕ} (m : Member) (ms : List Member) (t : List ℕ) → Stands s k (44 ∷ members_text m ms t)
    → Stands s k (44 ∷ 34 ∷ inner m ms t)
unfolding inner
opens m [] t h = h
opens m (n ∷ ms) t h = h

pub find-written : {s : List ℕ} (d : ℕ) (w : List ℕ) (n v k : ℕ) (m : Member) (ms : List Member) (t : List ℕ)
    → Clean m ms → Stands s k (members_text m ms t)
    → tally s w n v (starts (suc (length s)) (member_step s (value_at s d)) k) ≡ tally_text w n v k m ms
unfolding tally either
find-written {s} d w n v k m [] t (last a b) h =
    rw (
      starts-end (length s) (member_step s (value_at s d)) k refl (member-step d w m a b (125 ∷ t) h
          ∙ close-reads (rest-stands d w m a b (125 ∷ t) h) refl),
      named-is d w m a b (125 ∷ t) h,
      place_is d w m a b (125 ∷ t) h,
    ) refl
find-written {s} d w n v k m (o ∷ ms) t (more a b c) h =
    let u : List ℕ = 44 ∷ members_text o ms t in
    let r = rest-stands d w m a b u h in
    let e : k + length m.name + length m.value + 5 + 1 ≡ k + length m.name + length m.value + 6 =
    omega arith in
    sym (tally-more s w n v k (sym (named-is d w m a b u h)) refl
    (ap (λ p. pick (same_list m.name w) p v) (sym (place_is d w m a b u h))) _
    (starts_more (length s) (member_step s (value_at s d)) (forth-members s d) k refl
    (member-step d w m a b u h ∙ comma-reads 125 (opens o ms t r) refl (λ z. omega arith) ∙ ap More e)))
    ∙ find-written d w (count_of (same_list m.name w) n) (pick (same_list m.name w) (k + length m.name + 3) v)
    (k + length m.name + length m.value + 6) o ms t c (rw e at (stands-next r))
