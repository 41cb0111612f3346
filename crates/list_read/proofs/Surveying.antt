-- Laws for the survey of a list: its members, its servers, and what is said of it.
use Rattle.std.specs.Prelude.{None, Option, Some, Err, Ok, Result}
use Rattle.refusal.specs.declared.Refusal.{Refusal}
use Rattle.refusal.specs.Refusal.{refusal}
use Prim.Native.Nat.{ℕ, suc, ◌+◌, ◌-◌, ◌≤◌}
use mathlib.Core.Path.{◌≡◌, refl, sym, ◌∙◌, ap}
use mathlib.Core.Bool.{Bool, true, false, not, true≢false}
use mathlib.Core.List.{List, [], ◌∷◌}
use native.Mathlib.Omega.{arith}
use lib.Dec.{eqb, ltb}
use lib.ListN.{length, get_or}
use borrow.Author.Tests.{eq-eqb, ne_eqb, not-true, not-false, ltb-false}
use Rattle.laws.specs.Pick.{pick, either, both}
use Rattle.json_tokens.specs.Scan.{blank, past_while, past_blanks}
use Rattle.json_values.specs.Value.{object_of, value_at, ends_at, deepest, is_text}
use Rattle.json_values.specs.declared.Found.{Found}
use Rattle.json_values.specs.declared.Found.TheVariants.{At, Nothing, Twice}
use Rattle.json_values.specs.Members.{found_of}
use Rattle.report_read.specs.Entry.{elements_of}
use Rattle.report_read.specs.Entry.{list_of as array_of}
use Rattle.list_read.specs.declared.Tally.{Tally}
use Rattle.list_read.specs.declared.Survey.{Survey}
use Rattle.list_read.specs.Server.{in_root, in_servers, text_by, is_there, places_in, askable, server_at}
use Rattle.list_read.specs.Listed.{is_url, url_at, all_urls, source_places, sources_good, reports_good, all_servers}
use Rattle.list_read.specs.Listed.{servers_at, root_place, of_root, servers_member, sources_member, reports_member}
use Rattle.list_read.specs.Listed.{server_places, is_list, listed, this, unread, list_of, servers_name}
use Rattle.list_read.specs.Listed.{sources_name, reports_name}
use Rattle.list_read.specs.Read.{passed_over, size_code, list_code}
use Rattle.list_read.specs.Facts.{ask_places, Tallied, Tells, miscounted, Finds, members_good, SurveysBy, Surveys}
use Rattle.list_read.proofs.Parts.{ends-at}
use Rattle.list_read.proofs.Tallying.{asks-few}

-- ---- Sources, and where reports go.
module _ (s : List ℕ) (f : Found) where
  pub reports-at : {v : ℕ} {r : Bool} → f ≡ At v → r ≡ is_url (text_by s (At v)) → r ≡ reports_good s f
  unfolding reports_good url_at
  reports-at h g = rw h g

  pub reports-none : f ≡ Nothing → true ≡ reports_good s f
  unfolding reports_good
  reports-none h = rw h refl

  pub reports-twice : f ≡ Twice → false ≡ reports_good s f
  unfolding reports_good
  reports-twice h = rw h refl

  pub sources-at : {v b : ℕ} {r : Bool} → f ≡ At v → b ≡ get_or s v 0 → b ≡ 91
      → r ≡ all_urls s (elements_of s in_servers v) → r ≡ sources_good s f
  unfolding sources_good source_places places_in array_of is_there both pick
  sources-at {v} h e i g = rw h (rw (eq-eqb (get_or s v 0) 91 (sym e ∙ i)) g)

  pub sources-not : {v b : ℕ} → f ≡ At v → b ≡ get_or s v 0 → (b ≡ 91 → ⊥) → false ≡ sources_good s f
  unfolding sources_good source_places places_in array_of is_there both pick
  sources-not {v} h e i = rw h (rw (ne_eqb (get_or s v 0) 91 (λ z. i (e ∙ z))) refl)

  pub sources-none : f ≡ Nothing → true ≡ sources_good s f
  unfolding sources_good
  sources-none h = rw h refl

  pub sources-twice : f ≡ Twice → false ≡ sources_good s f
  unfolding sources_good
  sources-twice h = rw h refl

pub ruleset optional =
    (reports-at, reports-none, reports-twice, sources-at, sources-not, sources-none, sources-twice)

-- ---- By what was counted.
pub length-servers : (s ks : List ℕ) → length (servers_at s ks) ≡ length ks
unfolding servers_at
length-servers s [] = refl
length-servers s (k ∷ ks) = ap suc (length-servers s ks)

passed-sum : (s ks : List ℕ) → passed_over (servers_at s ks) + length (ask_places s ks) ≡ length ks
unfolding passed_over servers_at ask_places pick
passed-sum s [] = refl
passed-sum s (k ∷ ks) = by (askable (server_at s k)) (passed-sum s ks)
  where
    by : (b : Bool) → passed_over (servers_at s ks) + length (ask_places s ks) ≡ length ks
        → pick b (passed_over (servers_at s ks)) (suc (passed_over (servers_at s ks)))
        + length (pick b (k ∷ ask_places s ks) (ask_places s ks)) ≡ suc (length ks)
    by true h = omega arith
    by false h = omega arith

off-code : (a b c : Bool) → either a (either b c) ≡ true → ◌≡◌ {A = ℕ} (pick a 25 (pick b 25 (pick c 25 0))) 25
unfolding either pick
off-code true b c e = refl
off-code false true c e = refl
off-code false false true e = refl
off-code false false false e = absurd (true≢false (sym e))

even-code : (a b c : Bool) → either a (either b c) ≡ false
    → (b ≡ false) × ◌≡◌ {A = ℕ} (pick a 25 (pick b 25 (pick c 25 0))) 0
unfolding either pick
even-code true b c e = absurd (true≢false e)
even-code false true c e = absurd (true≢false e)
even-code false false true e = absurd (true≢false e)
even-code false false false e = (refl, refl)

-- no such number is 0
not-24 : ◌≡◌ {A = ℕ} 24 0 → ⊥
not-24 z = omega arith

not-25 : ◌≡◌ {A = ℕ} 25 0 → ⊥
not-25 z = omega arith

pub finds-bad : (s ks : List ℕ) (f g : Found) {why : Refusal} → all_servers s ks ≡ false → why ≡ refusal 24
    → Finds s ks f g (Err why)
unfolding pick
finds-bad s ks f g h c = rw h (c, not-24)

module _ {s ks : List ℕ} {t : Tally} (e : Tells s ks (Some t)) where
  pub finds-few : t.asked ≤ t.count
  finds-few = omega (arith, asks-few s ks, e.1.asked, e.1.count)

  pub finds-miscounted : (f g : Found) {why : Refusal} {b : Bool} → b ≡ miscounted t.count t.crowded → b ≡ true → why ≡ refusal 25
      → Finds s ks f g (Err why)
  unfolding miscounted size_code pick
  finds-miscounted f g {why} {b} i j c =
      let n : size_code (servers_at s ks) ≡ 25 =
      rw (length-servers s ks, sym e.1.count, sym e.1.crowded)
      (off-code (eqb t.count 0) (ltb 64 t.count) t.crowded (sym i ∙ j)) in
      rw (e.0, n) (c, not-25)

  pub finds-good : {f g : Found} {r : Survey} {b : Bool} → b ≡ miscounted t.count t.crowded → b ≡ false
      → r.asked ≡ t.asked → r.passed ≡ t.count - t.asked → r.places ≡ t.places → r.sources ≡ f → r.reports ≡ g
      → Finds s ks f g (Ok r)
  unfolding miscounted size_code pick
  finds-good {f} {g} {r} {b} m n a p l i j =
      let w = even-code (eqb t.count 0) (ltb 64 t.count) t.crowded (sym m ∙ n) in
      let z : size_code (servers_at s ks) ≡ 0 = rw (length-servers s ks, sym e.1.count, sym e.1.crowded) w.1 in (
        rw e.0 z,
        record {
          asked = a ∙ e.1.asked;
          passed = omega (arith, p, e.1.asked, e.1.count, passed-sum s ks);
          places = rw (a, l) (e.1.kept (ltb-false 64 t.count w.0));
          sources = i;
          reports = j;
        },
      )

-- ---- The whole list.
both-no-right : (p q : Bool) → q ≡ false → both p q ≡ false
unfolding both
both-no-right true q e = e
both-no-right false q e = refl

both-no-left : (p q : Bool) → p ≡ false → both p q ≡ false
unfolding both
both-no-left p q e = rw e refl

-- by the members of the outermost object
module _ (s : List ℕ) (a f g : Found) where
  unlisted-by : {why : Refusal} → members_good s a f g ≡ false → why ≡ refusal 24 → SurveysBy s a f g (Err why)
  unfolding pick
  unlisted-by h c = rw h (c, not-24)

  module _ {t : Bool} (i : t ≡ sources_good s f) where
    pub by-sources : {why : Refusal} → not t ≡ true → why ≡ refusal 24 → SurveysBy s a f g (Err why)
    unfolding members_good
    by-sources j c = unlisted-by (both-no-right _ _ (both-no-left _ _ (sym i ∙ not-true t j))) c

    module _ (j : not t ≡ false) {u : Bool} (k : u ≡ reports_good s g) where
      pub by-reports : {why : Refusal} → not u ≡ true → why ≡ refusal 24 → SurveysBy s a f g (Err why)
      unfolding members_good
      by-reports l c =
          unlisted-by (both-no-right _ _ (both-no-right _ _ (both-no-left _ _ (sym k ∙ not-true u l)))) c

      module _ (l : not u ≡ false) {y : Option ℕ} (m : y ≡ array_of s a) where
        pub by-servers : {why : Refusal} → y ≡ None → why ≡ refusal 24 → SurveysBy s a f g (Err why)
        unfolding members_good is_there
        by-servers n c = unlisted-by (both-no-left _ _ (rw (sym m ∙ n) refl)) c

        module _ {v : ℕ} (n : y ≡ Some v) where
          places-are : places_in s in_servers (array_of s a) ≡ elements_of s in_servers v
          unfolding places_in
          places-are = rw (sym m ∙ n) refl

          good-is : members_good s a f g ≡ all_servers s (elements_of s in_servers v)
          unfolding members_good is_there places_in both
          good-is = rw (sym m ∙ n, sym i ∙ not-false t j, sym k ∙ not-false u l) refl

          pub by-done : (r : Result Survey Refusal) → Finds s (elements_of s in_servers v) f g r → SurveysBy s a f g r
          by-done r w = rw (good-is, places-are) w

pub ruleset members = (by-sources, by-reports, by-servers, by-done)

-- where the outermost object ends
pub whole-none : {x : Option ℕ} (s : List ℕ) → x ≡ None → false ≡ ends_at s x
unfolding ends_at
whole-none s h = rw h refl

pub whole-at : {x : Option ℕ} {e k : ℕ} (s : List ℕ) → x ≡ Some e → k ≡ past_while blank s e → eqb k (length s) ≡ ends_at s x
unfolding ends_at
whole-at s h g = rw (h, g) refl

-- of a text
unlisted : (s : List ℕ) {why : Refusal} → root_place s ≡ None → why ≡ refusal 24 → Surveys s (Err why)
unfolding is_list servers_member of_root array_of is_there list_of pick list_code
unlisted s h c = let z : is_list s ≡ false = rw h (both-no-left _ _ refl) in rw z (c, not-24)

no-root : (t u : Bool) (k : ℕ) → u ≡ false → pick t (pick u (Some k) None) None ≡ None
unfolding pick
no-root true u k g = rw g refl
no-root false u k g = refl

module _ (s : List ℕ) {root : ℕ} (e : root ≡ past_while blank s 0) {b : ℕ} (h : b ≡ get_or s root 0) where
  pub survey-brace : {why : Refusal} → (b ≡ 123 → ⊥) → why ≡ refusal 24 → Surveys s (Err why)
  unfolding root_place
  survey-brace n c =
      unlisted s (no-root (is_text s) _ _ (ne_eqb (get_or s (past_blanks s 0) 0) 123 (λ z. n (h ∙ ap (λ k. get_or s k 0) e ∙ z)))) c

  module _ (g : b ≡ 123) {end : Option ℕ} (i : end ≡ object_of s (value_at s in_root) root) {t : Bool} (j : t ≡ ends_at s end) where
    brace : eqb (get_or s (past_blanks s 0) 0) 123 ≡ true
    brace = eq-eqb _ 123 (ap (λ k. get_or s k 0) (sym e) ∙ sym h ∙ g)

    is-json : t ≡ is_text s
    unfolding is_text
    is-json =
        j ∙ ap (ends_at s) (i ∙ ap (object_of s (value_at s in_root)) e
        ∙ sym (ends-at s deepest (past_blanks s 0) (λ z. omega arith) brace))

    pub survey-open : {why : Refusal} → not t ≡ true → why ≡ refusal 24 → Surveys s (Err why)
    unfolding root_place pick
    survey-open n c = unlisted s (rw (sym is-json ∙ not-true t n) refl) c

    module _ (n : not t ≡ false) {a f d : Found} (ia : a ≡ found_of s servers_name in_root root)
        (ib : f ≡ found_of s sources_name in_root root) (id : d ≡ found_of s reports_name in_root root) where
      root_is : root_place s ≡ Some root
      unfolding root_place pick
      root_is = rw (sym is-json ∙ not-false t n) (rw brace (ap Some (sym e)))

      is-a : servers_member s ≡ a
      unfolding servers_member of_root
      is-a = rw root_is (sym ia)

      is_b : sources_member s ≡ f
      unfolding sources_member of_root
      is_b = rw root_is (sym ib)

      is-d : reports_member s ≡ d
      unfolding reports_member of_root
      is-d = rw root_is (sym id)

      places-at : server_places s ≡ places_in s in_servers (array_of s a)
      unfolding server_places
      places-at = rw is-a refl

      list-is : is_list s ≡ members_good s a f d
      unfolding is_list members_good
      list-is = rw (is-a, is_b, is-d, places-at) refl

      code_is : (q : Bool)
          → pick q (size_code (servers_at s (places_in s in_servers (array_of s a)))) 24
          ≡ list_code (pick q (this (listed s)) unread)
      unfolding pick list_code listed
      code_is true = rw places-at refl
      code_is false = refl

      whole-code : pick (members_good s a f d) (size_code (servers_at s (places_in s in_servers (array_of s a)))) 24
          ≡ list_code (list_of s)
      unfolding list_of
      whole-code = code_is (members_good s a f d) ∙ rw list-is refl

      pub survey-done : (r : Result Survey Refusal) → SurveysBy s a f d r → Surveys s r
      survey-done r w = rw (sym whole-code, places-at, is_b, is-d) w

pub ruleset surveying = (survey-brace, survey-open, survey-done)
