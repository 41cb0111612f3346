-- Laws for the walk over the outermost object.
use Rattle.std.specs.Prelude.{None, Option, Some}
use Prim.Native.Nat.{ℕ, ◌+◌, ◌-◌, ◌<◌}
use mathlib.Core.Path.{◌≡◌, refl, sym, ◌∙◌, ap}
use mathlib.Core.Bool.{Bool, true, false}
use mathlib.Core.List.{List, [], ◌∷◌}
use native.Mathlib.Omega.{arith}
use lib.Dec.{eqb}
use lib.ListN.{length, get_or}
use borrow.Author.Tests.{eq-eqb, ne_eqb}
use Rattle.laws.specs.Pick.{pick}
use Rattle.json_tokens.specs.declared.Step.{Step}
use Rattle.json_tokens.specs.declared.Step.TheVariants.{More, End, Wrong}
use Rattle.json_tokens.specs.Scan.{past_while, blank, past_colon, after, then, then_step}
use Rattle.json_tokens.specs.Walk.{onward, more_of, starts}
use Rattle.json_tokens.proofs.Turns.{walked_more, walked_end, walked-wrong, starts_more, starts-end, starts-wrong, turn-falls}
use Rattle.json_strings.specs.Text.{string_at}
use Rattle.json_values.specs.declared.Found.{Found}
use Rattle.json_values.specs.declared.Found.TheVariants.{At, Nothing, Twice}
use Rattle.json_values.specs.Value.{value_at, member_step, object_of, array_of, ends_at, is_text, deepest}
use Rattle.json_values.specs.Members.{named, place_of, value_place, answer_of, count_of, tally, found_of}
use Rattle.json_values.proofs.Finds.{tally-many, members-none, members-some, object-some}
use Rattle.json_values.proofs.Ahead.{forth-members, value-is, object-is, array-is}
use Rattle.report_read.specs.declared.Kept.{Kept}
use Rattle.report_read.specs.Entry.{responses_name, in_report, in_list, elements_of, all_of, entries_at, list_of, list_place, these}
use Rattle.report_read.specs.Entry.{unread, entries_from, entries_of}
use Rattle.report_read.specs.Ready.{Listed, end_from, members_from, Sought, Rests, Behind, Opened, Told}

-- ---- Members that have the name, or another.
tally-skip : (s w : List ℕ) (n v k : ℕ) {rest all : List ℕ} → named s w k ≡ false → all ≡ k ∷ rest
    → tally s w n v rest ≡ tally s w n v all
unfolding tally count_of pick
tally-skip s w n v k h e = rw (e, h) refl

module _ (s : List ℕ) (k : ℕ) {x : Step} (e : x ≡ member_step s (value_at s in_report) k) where
  pub end_more : {j : ℕ} → x ≡ More j → end_from s j ≡ end_from s k
  unfolding end_from
  end_more h = walked_more (length s) (member_step s (value_at s in_report)) (forth-members s in_report) k e h

  pub end-here : {j : ℕ} → x ≡ End j → end_from s k ≡ Some j
  unfolding end_from
  end-here h = sym (walked_end (length s) (member_step s (value_at s in_report)) k e h)

  pub end-wrong : x ≡ Wrong → end_from s k ≡ None
  unfolding end_from
  end-wrong h = sym (walked-wrong (length s) (member_step s (value_at s in_report)) k e h)

  pub more-less : {j : ℕ} → x ≡ More j → length s - j < length s - k
  more-less h = turn-falls (length s) (member_step s (value_at s in_report)) (forth-members s in_report) k e h

  pub members-more : {j : ℕ} → x ≡ More j → members_from s k ≡ k ∷ members_from s j
  unfolding members_from
  members-more h = starts_more (length s) (member_step s (value_at s in_report)) (forth-members s in_report) k e h

  pub members-end : {j : ℕ} → x ≡ End j → members_from s k ≡ k ∷ []
  unfolding members_from
  members-end h = starts-end (length s) (member_step s (value_at s in_report)) k e h

  -- the members from k on, of which the one at k has another name
  module _ {t : Bool} (q : t ≡ named s responses_name k) (f : t ≡ false) where
    pub skip-more : (n v : ℕ) {j : ℕ} → x ≡ More j
        → tally s responses_name n v (members_from s j) ≡ tally s responses_name n v (members_from s k)
    skip-more n v h = tally-skip s responses_name n v k (sym q ∙ f) (members-more h)

    pub skip-end : (n v : ℕ) {j : ℕ} → x ≡ End j → tally s responses_name n v (members_from s k) ≡ answer_of n v
    unfolding tally
    skip-end n v h = sym (tally-skip s responses_name n v k (sym q ∙ f) (members-end h))

pub never : {A : Type 0} {x : Option ℕ} {e : ℕ} → x ≡ None → x ≡ Some e → A
never {x = x} {e} p q = let z : ◌≡◌ {A = ℕ} 0 1 = cc in absurd (omega arith)

-- the members from k on begin with that at k
others : List ℕ → ℕ → List ℕ
others s k = more_of (member_step s (value_at s in_report) k) (starts (length s) (member_step s (value_at s in_report)))

members-head : (s : List ℕ) (k : ℕ) → members_from s k ≡ k ∷ others s k
unfolding members_from starts others
members-head s k = refl

-- a second one of the name
second : (s ks : List ℕ) (u v : ℕ) {b : Bool} → b ≡ true → tally s responses_name (count_of b 1) (pick b u v) ks ≡ Twice
unfolding count_of pick
second s ks u v h = rw h (tally-many s responses_name ks u)

pub twice-from : (s : List ℕ) (k v : ℕ) → named s responses_name k ≡ true → tally s responses_name 1 v (members_from s k) ≡ Twice
unfolding tally
twice-from s k v h = ap (tally s responses_name 1 v) (members-head s k) ∙ second s (others s k) (value_place s k) v h

-- by the turn at k
onward-end : (s : List ℕ) (k : ℕ) (t : Step) → t ≡ member_step s (value_at s in_report) k → onward t (end_from s) ≡ end_from s k
unfolding onward
onward-end s k (More j) e = end_more s k e refl
onward-end s k (End j) e = sym (end-here s k e refl)
onward-end s k Wrong e = sym (end-wrong s k e refl)

members-by : (s : List ℕ) (k : ℕ) (t : Step) → t ≡ member_step s (value_at s in_report) k
    → members_from s k ≡ k ∷ more_of t (members_from s)
unfolding more_of members_from
members-by s k (More j) e = members-more s k e refl
members-by s k (End j) e = members-end s k e refl
members-by s k Wrong e = starts-wrong (length s) (member_step s (value_at s in_report)) k e refl

-- ---- Behind the list.
pub behind_more : (s : List ℕ) {t : Step} {j : ℕ} (r : Option ℕ) → t ≡ More j → Rests s j r → Behind s t r
unfolding onward more_of
behind_more s (Some e) h g = rw h g
behind_more s None h g = rw h g

pub behind-end : (s : List ℕ) {t : Step} {e : ℕ} → t ≡ End e → Behind s t (Some e)
unfolding onward more_of tally answer_of pick
behind-end s h = rw h (refl, λ v. refl)

pub behind-wrong : (s : List ℕ) {t : Step} → t ≡ Wrong → Behind s t None
unfolding onward
behind-wrong s h = rw h (λ e g. never refl g)

-- ---- The text.
by_end : (s : List ℕ) (l x y : Option ℕ) → x ≡ y → ((e : ℕ) → x ≡ Some e → entries_from s l ≡ unread)
    → entries_from s (pick (ends_at s y) l None) ≡ unread
unfolding entries_from ends_at pick
by_end s l x None q h = refl
by_end s l x (Some e) q h = either_way (eqb (past_while blank s e) (length s))
  where
    either_way : (b : Bool) → entries_from s (pick b l None) ≡ unread
    either_way true = h e q
    either_way false = refl

-- one that was found is found, or stands twice
or-twice : (s : List ℕ) (u v : ℕ) (ks : List ℕ) (b : Bool) → entries_from s (list_of s (tally s responses_name 1 v ks)) ≡ unread
    → tally s responses_name 2 u ks ≡ Twice
    → entries_from s (list_of s (tally s responses_name (count_of b 1) (pick b u v) ks)) ≡ unread
unfolding count_of pick entries_from list_of
or-twice s u v ks true p q = rw q refl
or-twice s u v ks false p q = p

found-or : (s : List ℕ) (v : ℕ) (ks : List ℕ) → entries_from s (list_of s (At v)) ≡ unread
    → entries_from s (list_of s (tally s responses_name 1 v ks)) ≡ unread
unfolding tally answer_of pick
found-or s v [] h = h
found-or s v (k ∷ ks) h =
    or-twice s (value_place s k) v ks (named s responses_name k) (found-or s v ks h) (tally-many s responses_name ks (value_place s k))

wrong-value : (s : List ℕ) {x : Option ℕ} → x ≡ None → then_step x (after s 125) ≡ Wrong
unfolding then_step
wrong-value s h = rw h refl

entries-not : (s : List ℕ) (v : ℕ) → all_of s true (elements_of s in_list v) ≡ false → entries_from s (Some v) ≡ unread
unfolding entries_from pick
entries-not s v h = rw h refl

entries-are : (s : List ℕ) (v : ℕ) → all_of s true (elements_of s in_list v) ≡ true
    → entries_from s (Some v) ≡ these (entries_at s true (elements_of s in_list v))
unfolding entries_from pick
entries-are s v h = rw h refl

module _ {s : List ℕ} {k : ℕ} (o : Opened s k) where
  root-value : value_at s deepest (past_while blank s 0) ≡ end_from s k
  unfolding pick
  root-value =
      value-is s deepest (past_while blank s 0)
      ∙ rw (eq-eqb (get_or s (past_while blank s 0) 0) 123 o.brace)
      (object-is s deepest (past_while blank s 0) (λ q. omega arith) ∙ sym o.ends)

  -- where the object ends, what is found is no list of entries
  unread-unless : ((e : ℕ) → end_from s k ≡ Some e
      → entries_from s (list_of s (found_of s responses_name in_report (past_while blank s 0))) ≡ unread) → entries_of s ≡ unread
  unfolding entries_of list_place is_text pick
  unread-unless h =
      rw (eq-eqb (get_or s (past_while blank s 0) 0) 123 o.brace, root-value)
      (by_end s (list_of s (found_of s responses_name in_report (past_while blank s 0))) (end_from s k) (end_from s k) refl h)

  -- what is found, by the members behind the one at k
  found-is : {ks : List ℕ} → members_from s k ≡ k ∷ ks
      → tally s responses_name 1 (value_place s k) ks ≡ found_of s responses_name in_report (past_while blank s 0)
  unfolding tally count_of pick
  found-is m = rw (m, o.named) at o.count

  -- its value is no list of entries
  pub unread-value : {v : ℕ} → v ≡ value_place s k → entries_from s (list_of s (At v)) ≡ unread → entries_of s ≡ unread
  unread-value {v} e h =
      unread-unless (λ f g. rw (sym (found-is (members-head s k))) (rw e at (found-or s v (others s k) h)))

  -- no turn: it has no value
  pub unread-turn : member_step s (value_at s in_report) k ≡ Wrong → entries_of s ≡ unread
  unread-turn h = unread-unless (λ e g. never (end-wrong s k refl h) g)

  module _ {x : Option ℕ} (a : x ≡ string_at s k) where
    pub unread-string : x ≡ None → entries_of s ≡ unread
    unfolding member_step then_step
    unread-string h = unread-turn (rw (sym a ∙ h) refl)

    module _ {e : ℕ} (h : x ≡ Some e) {y : Option ℕ} (b : y ≡ past_colon s e) where
      pub unread-colon : y ≡ None → entries_of s ≡ unread
      unfolding member_step then_step
      unread-colon g = unread-turn (rw (sym a ∙ h) (rw (sym b ∙ g) refl))

      module _ {v : ℕ} (g : y ≡ Some v) where
        place : v ≡ value_place s k
        unfolding value_place place_of then
        place = sym (rw (sym a ∙ h) (rw (sym b ∙ g) refl))

        turn_is : member_step s (value_at s in_report) k ≡ then_step (value_at s in_report v) (after s 125)
        unfolding member_step then_step
        turn_is = rw (sym a ∙ h) (rw (sym b ∙ g) refl)

        module _ {c : ℕ} (d : c ≡ get_or s v 0) where
          pub unread-other : (c ≡ 91 → ⊥) → entries_of s ≡ unread
          unfolding entries_from list_of pick
          unread-other u = unread-value place (rw (sym d, ne_eqb c 91 u) refl)

          module _ (u : c ≡ 91) where
            list-value : value_at s in_report v ≡ array_of s (value_at s in_list) v
            unfolding pick
            list-value =
                value-is s in_report v
                ∙ rw (sym d, u) (array-is s in_report v (λ q. omega arith))

            list-found : list_of s (At v) ≡ Some v
            unfolding list_of pick
            list-found = rw (sym d, u) refl

            pub unread-list : (all_of s true (elements_of s in_list v) ≡ true → array_of s (value_at s in_list) v ≡ None)
                → entries_of s ≡ unread
            unread-list z = by (all_of s true (elements_of s in_list v)) refl
              where
                by : (q : Bool) → all_of s true (elements_of s in_list v) ≡ q → entries_of s ≡ unread
                by true q = unread-turn (turn_is ∙ wrong-value s (list-value ∙ z q))
                by false q = unread-value place (rw list-found (entries-not s v q))

            module _ {r : Kept} {f : ℕ} (l : Listed s v r f) where
              turn_at : member_step s (value_at s in_report) k ≡ after s 125 f
              unfolding then_step
              turn_at = turn_is ∙ rw (list-value ∙ l.ends) refl

              ends-at : onward (after s 125 f) (end_from s) ≡ end_from s k
              ends-at = onward-end s k (after s 125 f) (sym turn_at)

              found_at : tally s responses_name 1 (value_place s k) (more_of (after s 125 f) (members_from s))
                  ≡ found_of s responses_name in_report (past_while blank s 0)
              found_at = found-is (members-by s k (after s 125 f) (sym turn_at))

              pub unread-behind : Behind s (after s 125 f) None → entries_of s ≡ unread
              unfolding entries_from list_of
              unread-behind z =
                  unread-unless (λ e g. rw (sym found_at ∙ z e (ends-at ∙ g) (value_place s k)) refl)

              module _ {j : ℕ} (w : Behind s (after s 125 f) (Some j)) {n : ℕ} (q : n ≡ past_while blank s j) where
                whole : value_at s deepest (past_while blank s 0) ≡ Some j
                whole = root-value ∙ sym ends-at ∙ w.0

                pub unread-more : (n ≡ length s → ⊥) → entries_of s ≡ unread
                unfolding entries_of list_place is_text ends_at pick entries_from
                unread-more z = rw whole (rw (sym q, ne_eqb n (length s) z) refl)

                found-once : found_of s responses_name in_report (past_while blank s 0) ≡ At v
                found-once = sym found_at ∙ w.1 (value_place s k) ∙ ap At (sym place)

                entries-once : n ≡ length s → entries_of s ≡ entries_from s (list_of s (At v))
                unfolding entries_of list_place is_text ends_at pick
                entries-once z =
                    rw whole (rw (sym q, eq-eqb n (length s) z, eq-eqb (get_or s (past_while blank s 0) 0) 123 o.brace, found-once)
                    refl)

                pub told : n ≡ length s → Told s r.n r.big r.spots
                told z = record {
                  places = elements_of s in_list v;
                  entries = entries-once z ∙ ap (entries_from s) list-found ∙ entries-are s v l.all;
                  all = l.all;
                  keeps = l.keeps;
                }

-- ---- A text that does not begin so.
pub unread-brace : (s : List ℕ) {r b : ℕ} → r ≡ past_while blank s 0 → b ≡ get_or s r 0 → (b ≡ 123 → ⊥) → entries_of s ≡ unread
unfolding entries_of list_place pick entries_from
unread-brace s {r} {b} e g h = rw (sym e, sym g, ne_eqb b 123 h) (bad (is_text s))
  where
    bad : (q : Bool) → entries_from s (pick q None None) ≡ unread
    bad true = refl
    bad false = refl

no-members : (s : List ℕ) (q p : Bool) (f : Found) → f ≡ Nothing → entries_from s (pick q (pick p (list_of s f) None) None) ≡ unread
unfolding pick entries_from list_of
no-members s true true f h = rw h refl
no-members s true false f h = refl
no-members s false p f h = refl

unread-empty : (s : List ℕ) → found_of s responses_name in_report (past_while blank s 0) ≡ Nothing → entries_of s ≡ unread
unfolding entries_of list_place
unread-empty s h = no-members s (is_text s) (eqb (get_or s (past_while blank s 0) 0) 123) _ h

-- `root`, `first` and the bytes there are what code holds
module _ (s : List ℕ) {root : ℕ} (e : root ≡ past_while blank s 0) where
  pub unread-none : {first a : ℕ} → first ≡ past_while blank s (root + 1) → a ≡ get_or s first 0 → a ≡ 125 → entries_of s ≡ unread
  unfolding found_of tally answer_of pick
  unread-none f b h =
      unread-empty s (ap (tally s responses_name 0 0) (members-none s in_report (past_while blank s 0) (rw e at f) b h))

  module _ {b first a : ℕ} (g : b ≡ get_or s root 0) (h : b ≡ 123) (f : first ≡ past_while blank s (root + 1))
      (c : a ≡ get_or s first 0) (d : a ≡ 125 → ⊥) where
    brace-is : get_or s (past_while blank s 0) 0 ≡ 123
    brace-is = rw e at (sym g ∙ h)

    ends-first : end_from s first ≡ object_of s (value_at s in_report) (past_while blank s 0)
    unfolding end_from
    ends-first = object-some s in_report (past_while blank s 0) (rw e at f) c d

    count-first : tally s responses_name 0 0 (members_from s first) ≡ found_of s responses_name in_report (past_while blank s 0)
    unfolding members_from found_of
    count-first = ap (tally s responses_name 0 0) (members-some s in_report (past_while blank s 0) (rw e at f) c d)

    pub opened : {k : ℕ} → Sought s first k → Opened s k
    opened z =
        record { brace = brace-is; ends = z.ends ∙ ends-first; count = z.count ∙ count-first; named = z.named }

    root-first : value_at s deepest (past_while blank s 0) ≡ end_from s first
    unfolding pick
    root-first =
        value-is s deepest (past_while blank s 0)
        ∙ rw (eq-eqb (get_or s (past_while blank s 0) 0) 123 brace-is)
        (object-is s deepest (past_while blank s 0) (λ q. omega arith) ∙ sym ends-first)

    pub unread-sought : ((e : ℕ) → end_from s first ≡ Some e → tally s responses_name 0 0 (members_from s first) ≡ Nothing)
        → entries_of s ≡ unread
    unfolding entries_of list_place is_text pick entries_from list_of
    unread-sought z =
        rw (eq-eqb (get_or s (past_while blank s 0) 0) 123 brace-is, root-first)
        (by_end s (list_of s (found_of s responses_name in_report (past_while blank s 0))) (end_from s first) (end_from s first) refl
        (λ i q. rw (sym count-first ∙ z i q) refl))
