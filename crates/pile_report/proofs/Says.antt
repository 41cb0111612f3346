-- What the check of a report says, from what its steps find; and that only one answer is right.
use Rattle.check_response.specs.declared.Window.{Window}
use Rattle.std.specs.Option.{ok_or}
use Rattle.std.specs.Prelude.{Err, None, Ok, Option, Result, Some}
use mathlib.Core.Path.{◌≡◌, refl, sym, ◌∙◌, ap}
use mathlib.Core.Bool.{Bool, true, false, not}
use mathlib.Core.List.{List}
use Prim.Native.Nat.{ℕ, ◌<◌}
use native.Mathlib.Omega.{arith}
use lib.Dec.{T}
use Rattle.laws.specs.First.{when_of}
use Rattle.laws.proofs.First.{when-keeps}
use Rattle.refusal.proofs.Passing.{goes-on}
use Rattle.refusal.specs.Refusal.{passes, refusal, refusals}
use Rattle.refusal.specs.declared.Refusal.{Refusal}
use Rattle.pile.specs.Pile.{records_in, pile_bad, pile_code}
use Rattle.pile.proofs.Exactly.{pile-exactly}
use Rattle.pile.specs.Meaning.{GoodPile}
use Rattle.pile_runs.specs.Clash.{valid}
use Rattle.pile_runs.specs.Spans.{Answers}
use Rattle.pile_runs.specs.Convict.{Convicts, Contradiction}
use Rattle.pile_runs.proofs.Find.{once}
use Rattle.pile_runs.proofs.Pair.{pair-of-run}
use Rattle.laws.specs.Least.{Never}
use Rattle.pile_report.specs.Report.{judged, joined, refused, loose, Says, SaysOf, Reports}
use Rattle.pile_report.specs.Report.{RecordsRefused, of-record, code-17, code-18, code-15, of-records}
use Rattle.laws.proofs.Least.{first-once}

-- where code has no refusal of the pile, the pile is good
pub good_of : (pile answers : List ℕ) {r : Result (Unit {0}) Refusal} {u : Unit {0}} → r ≡ passes (pile_code pile answers)
    → r ≡ Ok u → GoodPile pile answers
good_of pile answers e f = (pile-exactly pile answers).0 (goes-on _ e f)

-- a test that does not fail holds
pub not-not : (b : Bool) → (T (not b) → ⊥) → T b
not-not true h = tt
not-not false h = h tt

-- the answer that the search for a run gives
abbrev pub span_report : Option (ℕ × ℕ) → Result (ℕ × ℕ) (Refusal × ℕ)
span_report s = ok_or s (refusal 18, 0)

module _ (v : ℕ → Result Window Refusal) (l : ℕ → Bool) (n : ℕ) where
  -- where no record is refused and no flag is missing, the ends of the run are the pair. It may be sought with any
  -- flags that are all set
  pub span-says : Never (refused v) n → Never (loose l) n → (set : ℕ → Bool) → ((k : ℕ) → k < n → T (set k))
      → (s : Option (ℕ × ℕ)) → Answers (Convicts v set n) s → Says v l n (span_report s)
  span-says f g set all s a =
      go s (pair-of-run v set n (λ k u. not-not (valid (v k)) (f k u)) (λ k z u. all k u) s a)
    where
      go : (s : Option (ℕ × ℕ)) → Answers (Contradiction v n) s → Says v l n (span_report s)
      go (Some (i, j)) m = (f, g, m)
      go None m = code-18 f g m

  -- what is refused names no pair,
  no-pair : (i j k : ℕ) (why : Refusal) → Says v l n (Ok (i, j)) → RecordsRefused v l n why k → ⊥
  no-pair i j k why p (of-record f e) = p.0 k f.inside f.holds
  no-pair i j k why p (code-17 f g) = p.1 k g.inside g.holds
  no-pair i j k why p (code-18 f g h) = h i j p.2.holds

  -- and is refused in one way only
  refused-once : (x y : Refusal) (k m : ℕ) → RecordsRefused v l n x k → RecordsRefused v l n y m
      → ◌≡◌ {A = Result (ℕ × ℕ) (Refusal × ℕ)} (Err (x, k)) (Err (y, m))
  refused-once x y k m (of-record f e) (of-record g h) =
      let q = first-once (refused v) n k m f g in
      let z : Err x ≡ Err y = sym e ∙ ap v q ∙ h in
      cc
  refused-once x y k m (of-record f e) (code-17 g h) = absurd (g k f.inside f.holds)
  refused-once x y k m (of-record f e) (code-18 g h i) = absurd (g k f.inside f.holds)
  refused-once x y k m (code-17 f g) (of-record h e) = absurd (f m h.inside h.holds)
  refused-once x y k m (code-17 f g) (code-17 h i) =
      let at : ℕ → Result (ℕ × ℕ) (Refusal × ℕ) = λ j. Err (refusal 17, j) in
      ap at (first-once (loose l) n k m g i)
  refused-once x y k m (code-17 f g) (code-18 h i e) = absurd (i k g.inside g.holds)
  refused-once x y k m (code-18 f g h) (of-record i e) = absurd (f m i.inside i.holds)
  refused-once x y k m (code-18 f g h) (code-17 i e) = absurd (g m e.inside e.holds)
  refused-once x y k m (code-18 f g h) (code-18 i j e) = refl

  -- one answer only is right
  pub says-once : (r s : Result (ℕ × ℕ) (Refusal × ℕ)) → Says v l n r → Says v l n s → r ≡ s
  says-once (Ok (i, j)) (Ok (a, b)) p q =
      let e = once (Contradiction v n) (λ x y h. omega (arith, h.order)) (Some (i, j)) (Some (a, b)) p.2 q.2 in
      cc
  says-once (Ok (i, j)) (Err (x, k)) p q = absurd (no-pair i j k x p q)
  says-once (Err (x, k)) (Ok (i, j)) p q = absurd (no-pair i j k x q p)
  says-once (Err (x, k)) (Err (y, m)) p q = refused-once x y k m p q

module _ (pile answers : List ℕ) where
  -- what is said of the records of a good pile is said of the pile,
  pub good-says : GoodPile pile answers → (r : Result (ℕ × ℕ) (Refusal × ℕ)) → SaysOf pile answers r → Reports pile answers r
  good-says g (Ok (i, j)) s = (g, s)
  good-says g (Err (why, k)) s = of-records g s

  -- and the other way round
  pub says_of : GoodPile pile answers → (r : Result (ℕ × ℕ) (Refusal × ℕ)) → Reports pile answers r → SaysOf pile answers r
  says_of g (Ok (i, j)) s = s.1
  says_of g (Err (why, k)) (code-15 bad) = absurd (bad g)
  says_of g (Err (why, k)) (of-records good s) = s

  same-says : (r s : Result (ℕ × ℕ) (Refusal × ℕ)) → GoodPile pile answers → SaysOf pile answers r → Reports pile answers s → r ≡ s
  same-says r s g p q = says-once (judged pile answers) (joined pile) (records_in pile) r s p (says_of g s q)

  -- any two answers on a pile are the same
  pub report-once : (r s : Result (ℕ × ℕ) (Refusal × ℕ)) → Reports pile answers r → Reports pile answers s → r ≡ s
  report-once (Ok (i, j)) s p q = same-says (Ok (i, j)) s p.0 p.1 q
  report-once (Err (why, k)) s (of-records g p) q = same-says (Err (why, k)) s g p q
  report-once (Err (why, k)) (Ok (i, j)) (code-15 bad) q = absurd (bad q.0)
  report-once (Err (why, k)) (Err (x, m)) (code-15 bad) (of-records g s) = absurd (bad g)
  report-once (Err (why, k)) (Err (x, m)) (code-15 bad) (code-15 worse) = refl

-- where code 15 applies, which code has as x
pub pile-refused : (pile answers : List ℕ) {x : Refusal} → x ≡ pile_code pile answers → (x.code ≡ 0 → ⊥)
    → (x ≡ refusal 15) × (GoodPile pile answers → ⊥)
unfolding pile_code when_of
pile-refused pile answers {x} e h = (
  when-keeps refusals (λ r. (x ≡ r) → x ≡ refusal 15) (pile_bad pile answers) (refusal 15) (λ b q. q)
      (λ q. absurd (h (ap (λ (r : Refusal). r.code) q))) e,
  λ g. h (ap (λ (r : Refusal). r.code) e ∙ (pile-exactly pile answers).1 g),
)

pub pile-bad : (pile answers : List ℕ) {x : Refusal} → x ≡ pile_code pile answers → (x.code ≡ 0 → ⊥)
    → Reports pile answers (Err (x, 0))
pile-bad pile answers e h =
    let r = pile-refused pile answers e h in
    rw r.0 (code-15 r.1)
