-- Laws about `tally`, for the loop over the members of an object.
use Rattle.std.specs.Prelude.{Some}
use Prim.Native.Nat.{ℕ, suc, ◌+◌}
use mathlib.Core.Path.{◌≡◌, refl, sym, ◌∙◌, ap}
use mathlib.Core.Bool.{Bool, true, false}
use mathlib.Core.List.{List, [], ◌∷◌}
use lib.Dec.{eqb}
use lib.ListN.{length, get_or}
use borrow.Author.Rules.{rules}
use borrow.Author.Tests.{ne_eqb, eqb-true, eqb-false}
use Rattle.laws.specs.Pick.{pick, both}
use Rattle.json_values.specs.declared.Found.{Found}
use Rattle.json_values.specs.declared.Found.TheVariants.{Twice}
use Rattle.json_tokens.specs.declared.Step.{Step}
use Rattle.json_tokens.specs.declared.Step.TheVariants.{More, End, Wrong}
use Rattle.json_tokens.proofs.Turns.{starts-end, starts-wrong}
use Rattle.json_tokens.specs.Scan.{past_blanks}
use Rattle.json_tokens.specs.Walk.{starts, walked}
use Rattle.json_tokens.proofs.Picks.{picks}
use Rattle.json_values.specs.Value.{member_step, value_at, object_of}
use Rattle.json_values.specs.declared.Seen.{Seen}
use Rattle.json_values.specs.Facts.{Noted}
use Rattle.json_strings.specs.Text.{unescaped, content_at, same_list, Lettered}
use Rattle.json_strings.proofs.Content.{content-code}
use Rattle.json_strings.proofs.Runs.{unit-unescaped}
use Rattle.json_values.specs.Members.{named, value_place, answer_of, count_of, tally}
use Rattle.json_values.specs.Members.{members_of, found_of}

module _ (s w : List ℕ) (n v k : ℕ) {yes : Bool} {m u : ℕ} (a : yes ≡ named s w k) (b : m ≡ count_of yes n)
    (c : u ≡ pick yes (value_place s k) v) where
  pub tally-more : (rest : List ℕ) {all : List ℕ} → all ≡ k ∷ rest → tally s w m u rest ≡ tally s w n v all
  unfolding tally
  tally-more rest e = rw (e, sym a, sym b, sym c) refl

  pub tally-last : {all : List ℕ} {r : Found} → all ≡ k ∷ [] → r ≡ answer_of m u → r ≡ tally s w n v all
  unfolding tally
  tally-last e g = rw (e, sym a, sym b, sym c) g

-- the same by whether the member has the name
module _ {yes : Bool} {m u : ℕ} (n v p : ℕ) where
  pub tallied : yes ≡ true → m ≡ count_of true n → u ≡ p → (m ≡ count_of yes n) × (u ≡ pick yes p v)
  unfolding pick
  tallied h f g = rw h (f, g)

  pub untallied : yes ≡ false → m ≡ n → u ≡ v → (m ≡ count_of yes n) × (u ≡ pick yes p v)
  unfolding count_of pick
  untallied h f g = rw h (f, g)

-- the last turn, whatever it says
pub starts_last : {x : Step} (L : ℕ) (f : ℕ → Step) (k : ℕ) → x ≡ f k → ((j : ℕ) → x ≡ More j → ⊥)
    → starts (suc L) f k ≡ k ∷ []
starts_last {x} L f k e h = by x refl
  where
    by : (t : Step) → x ≡ t → starts (suc L) f k ≡ k ∷ []
    by (More j) q = absurd (h j q)
    by (End j) q = starts-end L f k e q
    by Wrong q = starts-wrong L f k e q

-- ---- Where two members have the name, no other matters, and no place.
either-twice : (s w ks : List ℕ) (u v : ℕ) (b : Bool) → tally s w 2 u ks ≡ Twice → tally s w 2 v ks ≡ Twice
    → tally s w (count_of b 2) (pick b u v) ks ≡ Twice
unfolding count_of pick
either-twice s w ks u v true p q = p
either-twice s w ks u v false p q = q

pub tally-many : (s w ks : List ℕ) (v : ℕ) → tally s w 2 v ks ≡ Twice
unfolding tally answer_of pick
tally-many s w [] v = refl
tally-many s w (k ∷ ks) v =
    either-twice s w ks (value_place s k) v (named s w k) (tally-many s w ks (value_place s k)) (tally-many s w ks v)

tally-place : (s w ks : List ℕ) (n : ℕ) {u v : ℕ} → ((n ≡ 2 → ⊥) → u ≡ v) → tally s w n u ks ≡ tally s w n v ks
tally-place s w ks n {u} {v} h = by (eqb n 2) refl
  where
    by : (b : Bool) → eqb n 2 ≡ b → tally s w n u ks ≡ tally s w n v ks
    by true e = rw (eqb-true n 2 e) (tally-many s w ks u ∙ sym (tally-many s w ks v))
    by false e = ap (λ x. tally s w n x ks) (h (eqb-false n 2 e))

-- ---- An object, at its first member: `first` and `b` are what code holds of it.
module _ (s : List ℕ) (d at : ℕ) {first b : ℕ} (e : first ≡ past_blanks s (at + 1)) (g : b ≡ get_or s first 0) where
  pub members-none : b ≡ 125 → members_of s d at ≡ []
  unfolding members_of pick
  members-none h = rw (sym e) (rw (sym g, h) refl)

  pub members-some : (b ≡ 125 → ⊥) → starts (suc (length s)) (member_step s (value_at s d)) first ≡ members_of s d at
  unfolding members_of
  members-some h = rw (sym e) (search (picks, rules))

  pub object-none : b ≡ 125 → Some (first + 1) ≡ object_of s (value_at s d) at
  unfolding object_of pick
  object-none h = rw (sym e) (rw (sym g, h) refl)

  pub object-some : (b ≡ 125 → ⊥) → walked (length s) (member_step s (value_at s d)) first ≡ object_of s (value_at s d) at
  unfolding object_of
  object-some h = rw (sym e) (search (picks, rules))

-- what was seen of a name before the member at k, with what is still to come, is what is found
pub record Sofar (s w : List ℕ) (d at k n v : ℕ) : Type 0 where
  pub whole : tally s w n v (starts (suc (length s)) (member_step s (value_at s d)) k) ≡ found_of s w d at

pub sofar-none : {r : Found} (n v : ℕ) (s w : List ℕ) (d at : ℕ) → members_of s d at ≡ [] → n ≡ 0 → r ≡ answer_of n v
    → r ≡ found_of s w d at
unfolding found_of tally answer_of pick
sofar-none n v s w d at e g h = rw e (h ∙ rw g refl)

pub sofar-first : {s w : List ℕ} {d at k n v : ℕ}
    → starts (suc (length s)) (member_step s (value_at s d)) k ≡ members_of s d at → n ≡ 0 → v ≡ 0 → Sofar s w d at k n v
unfolding found_of
sofar-first e g h = record { whole = rw (e, g, h) refl }

module _ {s w : List ℕ} {d at k v : ℕ} {t r : Seen} (z : Sofar s w d at k t.n t.v) (a : v ≡ value_place s k)
    (b : Noted s w k v t r) where
  placed : (ks : List ℕ) → tally s w r.n r.v ks ≡ tally s w r.n (pick (named s w k) (value_place s k) t.v) ks
  placed ks = tally-place s w ks r.n (λ h. rw a at (b.v h))

  pub sofar-more : {j : ℕ} → starts (suc (length s)) (member_step s (value_at s d)) k
      ≡ k ∷ starts (suc (length s)) (member_step s (value_at s d)) j
      → Sofar s w d at j r.n r.v
  sofar-more e = record { whole = placed _ ∙ tally-more s w t.n t.v k refl b.n refl _ e ∙ z.whole }

  pub sofar-last : {x : Found} → starts (suc (length s)) (member_step s (value_at s d)) k ≡ k ∷ []
      → x ≡ answer_of r.n r.v → x ≡ found_of s w d at
  unfolding tally
  sofar-last e h = h ∙ placed [] ∙ tally-last s w t.n t.v k refl b.n refl e refl ∙ z.whole

not_same : (b : ℕ) (l x : List ℕ) → (b ≡ get_or l 0 0 → ⊥) → same_list (b ∷ x) l ≡ false
unfolding same_list both
not_same b [] x h = refl
not_same b (y ∷ l) x h = simp (ne_eqb b y h)

not-both : (p : Bool) → both p false ≡ false
unfolding both pick
not-both true = refl
not-both false = refl

not-long : (x l : List ℕ) → (length x ≡ length l → ⊥) → same_list x l ≡ false
unfolding same_list
not-long [] [] h = absurd (h refl)
not-long [] (y ∷ l) h = refl
not-long (b ∷ x) [] h = refl
not-long (b ∷ x) (y ∷ l) h = rw (not-long x l (λ e. h (ap suc e))) (not-both (eqb b y))

-- ---- A member that has not the name changes nothing.
module _ (s w : List ℕ) (k : ℕ) where
  pub noted-not : {v : ℕ} {t : Seen} → named s w k ≡ false → Noted s w k v t t
  unfolding count_of pick
  noted-not e = record { n = rw e refl; v = λ _. rw e refl }

  -- nor does one where two have it
  pub noted-twice : {v : ℕ} {t : Seen} → t.n ≡ 2 → Noted s w k v t t
  unfolding count_of pick
  noted-twice e = record { n = rw e (by (named s w k)); v = λ h. absurd (h e) }
    where
      by : (p : Bool) → ◌≡◌ {A = ℕ} 2 (pick p 2 2)
      by true = refl
      by false = refl

  -- by its quote
  pub unnamed-other : {b : ℕ} → b ≡ get_or s k 0 → (b ≡ 34 → ⊥) → named s w k ≡ false
  unfolding named pick
  unnamed-other {b} e h = rw (sym e, ne_eqb b 34 h) refl

  by-content : (get_or s k 0 ≡ 34 → same_list (content_at s (k + 1)) w ≡ false) → named s w k ≡ false
  unfolding named pick
  by-content h = by (eqb (get_or s k 0) 34) refl
    where
      by : (q : Bool) → eqb (get_or s k 0) 34 ≡ q → pick q (same_list (content_at s (k + 1)) w) false ≡ false
      by true e = h (eqb-true (get_or s k 0) 34 e)
      by false e = refl

  -- by its first letter
  pub unnamed-first : {b : ℕ} → b ≡ get_or s (k + 1) 0 → unescaped b ≡ true → (b ≡ get_or w 0 0 → ⊥) → named s w k ≡ false
  unnamed-first {b} e u h = by-content (λ _. rw content (not_same b w (content_at s (k + 1 + 1)) h))
    where
      content : content_at s (k + 1) ≡ b ∷ content_at s (k + 1 + 1)
      content = rw (sym e) at (content-code s (k + 1) refl (unit-unescaped s (k + 1) (rw e at u)))

  -- and by how long it is
  pub unnamed-long : {n : ℕ} → Lettered s k n → (length w ≡ n → ⊥) → named s w k ≡ false
  unnamed-long z h = by-content (λ q. not-long _ w (λ e. h (sym e ∙ z.long q)))
