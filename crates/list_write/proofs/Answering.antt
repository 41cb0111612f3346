-- Laws of the answers, of what is written, and of the order of the codes.
use Rattle.std.specs.Prelude.{Err, None, Ok, Option, Result, Some}
use Prim.Native.Nat.{ℕ, ◌+◌, ◌-◌, ◌≤◌, ◌<◌}
use mathlib.Core.Path.{◌≡◌, refl, sym, ◌∙◌, ap}
use mathlib.Core.Bool.{Bool, true, false, not}
use mathlib.Core.List.{List, [], ◌∷◌}
use native.Mathlib.Omega.{arith}
use lib.Dec.{ltb}
use lib.ListN.{length}
use borrow.Author.Tests.{eq-eqb, ne_eqb, lt-ltb, le-ltb, ltb-true, ltb-false, not-true, not-false}
use Rattle.laws.specs.Ascii.{ascii}
use Rattle.laws.specs.Flat.{flat}
use Rattle.laws.specs.Pick.{pick, both}
use Rattle.laws.specs.Written.{written, Puts}
use Rattle.laws.proofs.Written.{written-whole, written-refused}
use Rattle.refusal.specs.declared.Refusal.{Refusal}
use Rattle.refusal.specs.Refusal.{refusal, passes}
use Rattle.refusal.proofs.Passing.{goes-on, error-is, error-refuses}
use Rattle.json_quote.specs.Room.{spent}
use Rattle.json_quote.proofs.Putting.{Putting, putting-first}
use Rattle.list_write.specs.declared.Item.TheVariants.{Source, Address}
use Rattle.list_write.specs.declared.Listing.{Listing}
use Rattle.list_write.specs.Given.{Given, good_server, is_crowded, server_code, good_reports}
use Rattle.list_write.specs.Lent.{Lent, fitted, givens, all_servers, any_crowded}
use Rattle.list_write.specs.Lending.{lent_of}
use Rattle.list_write.specs.Facts.{Ready}
use Rattle.list_write.specs.Lines.{lines_of, all_good}
use Rattle.list_write.specs.Texts.{servers_text, sources_text, reports_text, list_text}
use Rattle.list_write.specs.Answers.{listing_number, roomed, answered, good_list, size_code, list_code}
use Rattle.list_write.proofs.Flats.{room-piece}
use Rattle.list_write.proofs.Arrays.{flat-one}
use Rattle.list_write.proofs.Feeds.{halves}

-- ---- Room that is left, or not.
no_room : {k : ℕ} → Some k ≡ None → ⊥
no_room e = let z : ◌≡◌ {A = ℕ} 0 1 = cc in omega arith

pub room-short : {x : Option ℕ} (k n : ℕ) → x ≡ spent (Some k) n → x ≡ None → k < n
unfolding spent pick
room-short {x} k n e h = by (ltb k n) refl (sym e ∙ h)
  where
    by : (t : Bool) → ltb k n ≡ t → pick t None (Some (k - n)) ≡ None → k < n
    by true q g = ltb-true k n q
    by false q g = absurd (no_room g)

pub room-left : {x : Option ℕ} {r : ℕ} (k n : ℕ) → x ≡ spent (Some k) n → x ≡ Some r → 0 + n ≤ k
unfolding spent pick
room-left {x} {r} k n e h = by (ltb k n) refl (sym e ∙ h)
  where
    by : (t : Bool) → ltb k n ≡ t → pick t None (Some (k - n)) ≡ Some r → 0 + n ≤ k
    by true q g = absurd (no_room (sym g))
    by false q g = omega (arith, ltb-false k n q)

-- ---- The answers, by what code answers for the number of a refusal.
module _ (number : ℕ) {r : Result (Unit {0}) Refusal} (e : r ≡ passes (refusal number)) (text o : List ℕ) where
  pub answer-refused : {x : Refusal} → r ≡ Err x
      → (Err x ≡ answered number text (length o)) × (o ≡ written (listing_number (Err x)) text o)
  unfolding answered pick
  answer-refused {x} h =
      let is : x ≡ refusal number = error-is (refusal number) e h in
      let some = error-refuses (refusal number) e h in
      rw is (
        rw (ne_eqb number 0 (rw is at some)) refl,
        written-refused number text o (rw is at some),
      )

  module _ {u : Unit {0}} (h : r ≡ Ok u) where
    none : number ≡ 0
    none = goes-on (refusal number) e h

    pub answer-short : length o < length text
        → (Err (refusal 19) ≡ answered number text (length o))
        × (o ≡ written (listing_number (Err (refusal 19))) text o)
    unfolding answered roomed pick
    answer-short g = (
      rw (eq-eqb number 0 none, lt-ltb (length o) (length text) g) refl,
      written-refused 19 text o (λ q. omega arith),
    )

    pub answer-done : {d : List ℕ} {n : ℕ} → Puts o 0 text d n
        → (Ok n ≡ answered number text (length o)) × (d ≡ written (listing_number (Ok n)) text o)
    unfolding answered roomed pick
    answer-done {d} {n} p = (
      rw (eq-eqb number 0 none, le-ltb (length o) (length text) (omega (arith, p.ends, p.fits)))
          (ap Ok (omega (arith, p.ends))),
      written-whole p,
    )

-- ---- What the code 0 says.
pub server-ready : (name addresses : List ℕ) → server_code name addresses ≡ 0
    → all_good Address (lines_of addresses) ≡ true
unfolding server_code good_server pick
server-ready name addresses e = by (good_server name addresses) refl e
  where
    by : (t : Bool) → good_server name addresses ≡ t → ◌≡◌ {A = ℕ} (pick t (pick (is_crowded addresses) 25 0) 24) 0
        → all_good Address (lines_of addresses) ≡ true
    by true q g = (halves _ (all_good Address (lines_of addresses)) q).1
    by false q g = let z : ◌≡◌ {A = ℕ} 24 0 = g in absurd (omega arith)

pub list-ready : (l : Listing) → list_code (lent_of l.servers.left) l.sources.now l.reports.now ≡ 0 → Ready l
unfolding list_code good_list pick
list-ready l e = by (fitted (lent_of l.servers.left)) (good_list (lent_of l.servers.left) l.sources.now l.reports.now) refl refl e
  where
    by : (a b : Bool) → fitted (lent_of l.servers.left) ≡ a
        → good_list (lent_of l.servers.left) l.sources.now l.reports.now ≡ b
        → ◌≡◌ {A = ℕ} (pick a (pick b (size_code (givens (lent_of l.servers.left))) 24) 21) 0 → Ready l
    by true true p q g =
        let h = halves (all_servers (givens (lent_of l.servers.left)))
        (both (all_good Source (lines_of l.sources.now)) (good_reports l.reports.now)) q in
        record {
          servers = h.0;
          lines = (halves (all_good Source (lines_of l.sources.now)) (good_reports l.reports.now) h.1).0;
        }
    by true false p q g = let z : ◌≡◌ {A = ℕ} 24 0 = g in absurd (omega arith)
    by false b p q g = let z : ◌≡◌ {A = ℕ} 21 0 = g in absurd (omega arith)

-- ---- The refusals of a server and of a list, one after the other.
module _ (name addresses : List ℕ) {t : Bool} (e : t ≡ good_server name addresses) where
  pub server-bad : not t ≡ true → Err (refusal 24) ≡ passes (refusal (server_code name addresses))
  unfolding server_code pick passes
  server-bad h = rw (sym e ∙ not-true t h) refl

  module _ (h : not t ≡ false) {u : Bool} (f : u ≡ is_crowded addresses) where
    pub server-crowded : u ≡ true → Err (refusal 25) ≡ passes (refusal (server_code name addresses))
    unfolding server_code pick passes
    server-crowded g = rw (sym e ∙ not-false t h, sym f ∙ g) refl

    pub server-passes : u ≡ false → Ok tt ≡ passes (refusal (server_code name addresses))
    unfolding server_code pick passes
    server-passes g = rw (sym e ∙ not-false t h, sym f ∙ g) refl

module _ (gs : List Given) where
  pub sizes-none : length gs ≡ 0 → Err (refusal 25) ≡ passes (refusal (size_code gs))
  unfolding size_code pick passes
  sizes-none n = rw (eq-eqb (length gs) 0 n) refl

  module _ (n : length gs ≡ 0 → ⊥) where
    pub sizes-many : 64 < length gs → Err (refusal 25) ≡ passes (refusal (size_code gs))
    unfolding size_code pick passes
    sizes-many m = rw (ne_eqb (length gs) 0 n, lt-ltb 64 (length gs) m) refl

    module _ (m : length gs ≤ 64) {v : Bool} (e : v ≡ any_crowded gs) where
      pub sizes-crowded : v ≡ true → Err (refusal 25) ≡ passes (refusal (size_code gs))
      unfolding size_code pick passes
      sizes-crowded g = rw (ne_eqb (length gs) 0 n, le-ltb 64 (length gs) m, sym e ∙ g) refl

      pub sizes-pass : v ≡ false → Ok tt ≡ passes (refusal (size_code gs))
      unfolding size_code pick passes
      sizes-pass g = rw (ne_eqb (length gs) 0 n, le-ltb 64 (length gs) m, sym e ∙ g) refl

module _ (l : Lent) (sources reports : List ℕ) where
  pub list-apart : fitted l ≡ false → list_code l sources reports ≡ 21
  unfolding list_code pick
  list-apart h = rw h refl

  module _ (h : fitted l ≡ true) {t : Bool} (e : t ≡ good_list l sources reports) where
    pub list-bad : not t ≡ true → Err (refusal 24) ≡ passes (refusal (list_code l sources reports))
    unfolding list_code pick passes
    list-bad g = rw (h, sym e ∙ not-true t g) refl

    pub list-sizes : not t ≡ false → {r : Result (Unit {0}) Refusal} → r ≡ passes (refusal (size_code (givens l)))
        → r ≡ passes (refusal (list_code l sources reports))
    unfolding list_code pick
    list-sizes g q = rw (h, sym e ∙ not-false t g) q

-- a list whose parts do not fit together
pub apart-refused : (number : ℕ) (text o : List ℕ) → number ≡ 21
    → (Err (refusal 21) ≡ answered number text (length o)) × (o ≡ written (listing_number (Err (refusal 21))) text o)
unfolding answered pick
apart-refused number text o e = (rw e refl, written-refused 21 text o (λ q. omega arith))

-- ---- The text of a list: at its beginning, and the room that it takes.
pub list-first : (gs : List Given) (sources reports o : List ℕ) → 0 + length (list_text gs sources reports) ≤ length o
    → Putting (list_text gs sources reports) (flat (ascii "{\"servers\":[" ∷ servers_text gs ∷ sources_text sources
    ∷ reports_text reports ∷ ascii "}" ∷ [])) o 0 o 0
unfolding list_text
list-first gs sources reports o h = putting-first _ o 0 h

pub list-room : (gs : List Given) (sources reports : List ℕ) (w a b c d : Option ℕ) {r : Option ℕ} → a ≡ spent w 12
    → b ≡ spent a (length (servers_text gs)) → c ≡ spent b (length (sources_text sources))
    → d ≡ spent c (length (reports_text reports)) → r ≡ spent d 1
    → r ≡ spent w (length (list_text gs sources reports))
unfolding list_text
list-room gs sources reports w a b c d e f g h i =
    room-piece w a (ascii "{\"servers\":[") _ e
    (room-piece a b (servers_text gs) _ f
    (room-piece b c (sources_text sources) _ g
    (room-piece c d (reports_text reports) _ h (i ∙ ap (spent d) (sym (flat-one (ascii "}")))))))
