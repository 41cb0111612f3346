-- What the cutter looks for is what document 01 calls a report: a run of a good pile convicts by itself exactly where
-- its records, cut out, are a report with their own answers. So the cutter takes the shortest part that is a report,
-- and where it finds none, no part of the pile is one.
use Rattle.std.specs.Prelude.{Err, Ok}
use mathlib.Core.Path.{◌≡◌, refl, sym, ap, ◌∙◌}
use mathlib.Core.List.{List}
use mathlib.Core.Logic.{◌↔◌}
use Prim.Native.Nat.{ℕ, ◌+◌, ◌-◌, ◌≤◌, ◌<◌}
use native.Mathlib.Omega.{arith}
use lib.ListN.{length}
use Rattle.laws.specs.Bytes.{Bytes}
use Rattle.laws.specs.Pairs.{IsLeast}
use Rattle.refusal.specs.Refusal.{refusal}
use Rattle.refusal.specs.declared.Refusal.{Refusal}
use Rattle.pile.specs.Pile.{records_in}
use Rattle.pile.specs.Meaning.{GoodPile, ValidRecord}
use Rattle.pile.proofs.Exactly.{valid-judged}
use Rattle.pile_runs.proofs.SamePile.{same-least}
use Rattle.pile_report.specs.Report.{judged}
use Rattle.pile_report.specs.Taking.{ConvictsIn, CutRefused, code-15, code-19, code-18, Takes, run_bytes, run_answers}
use Rattle.pile_report.specs.Meaning.{IsReport, ReportIn}
use Rattle.pile_report.proofs.Exactly.{valid-yes, yes-valid, linked-tested, clash-tested}
use Rattle.pile_report.proofs.CutBytes.{RunIn, count-run}
use Rattle.pile_report.proofs.CutRecords.{first-rand-run, same-window, same-valid, same-linked}

module _ {pile answers : List ℕ} {i j : ℕ} (run : RunIn pile answers i j) where
  -- record k of the run was record i + k of the pile
  pub place_in : (k : ℕ) → k < records_in (run_bytes i j pile) → i + k ≤ j
  place_in k l = omega (arith, run.order, count-run run)

  -- a valid record has the same verdict in the run
  pub same-verdict : (k m : ℕ) → i + k ≡ m → m ≤ j → ValidRecord pile answers m
      → judged (run_bytes i j pile) (run_answers i j answers) k ≡ judged pile answers m
  same-verdict k m e u v =
      valid-judged (run_bytes i j pile) (run_answers i j answers) k ((same-valid run k m e u).1 v)
      ∙ ap Ok (same-window run k m e u)
      ∙ sym (valid-judged pile answers m v)

  module _ (bytes : Bytes pile) (c : ConvictsIn pile answers i j) where
    pub valid-in : (m : ℕ) → i ≤ m → m ≤ j → ValidRecord pile answers m
    valid-in m l u = yes-valid pile answers m bytes (c.clean.all_valid m l u)

    to-report : IsReport (run_bytes i j pile) (run_answers i j answers)
    to-report =
        let l : i ≤ c.i = c.from in
        let u : c.j ≤ j = c.to in
        let o : c.i < c.j = c.order in
        record {
          all_valid = λ k h.
              (same-valid run k (i + k) refl (place_in k h)).1 (valid-in (i + k) (omega arith) (place_in k h));
          all-linked = λ k z h.
              (same-linked run k (i + k) refl (place_in k h) z).1
              ((linked-tested pile answers (i + k) (omega arith)
              (valid-in (i + k - 1) (omega arith) (omega (arith, place_in k h)))
              (valid-in (i + k) (omega arith) (place_in k h))
              ).0 (c.clean.all-linked (i + k) (omega arith) (place_in k h)));
          rand = first-rand-run run;
          i = c.i - i;
          j = c.j - i;
          order = omega arith;
          inside = omega (arith, count-run run);
          contradict =
              rw (
                same-window run (c.i - i) c.i (omega arith) (omega arith),
                same-window run (c.j - i) c.j (omega arith) u,
              )
              (rw
              (clash-tested pile answers c.i c.j (valid-in c.i l (omega arith))
              (valid-in c.j (omega arith) u))
              at c.clash);
        }

  module _ (d : IsReport (run_bytes i j pile) (run_answers i j answers)) where
    valid-back : (m : ℕ) → i ≤ m → m ≤ j → ValidRecord pile answers m
    valid-back m l u =
        (same-valid run (m - i) m (omega arith) u).0 (d.all_valid (m - i) (omega (arith, count-run run)))

    to-convicts : ConvictsIn pile answers i j
    to-convicts =
        let u : i + d.j ≤ j = place_in d.j d.inside in
        let o : d.i < d.j = d.order in
        record {
          inside = run.inside;
          clean = record {
            all_valid = λ m l h. valid-yes pile answers m (valid-back m l h);
            all-linked = λ m l h.
                (linked-tested pile answers m (omega arith)
                (valid-back (m - 1) (omega arith) (omega arith)) (valid-back m (omega arith) h)
                ).1
                ((same-linked run (m - i) m (omega arith) h (omega arith)).0
                (d.all-linked (m - i) (omega arith) (omega (arith, count-run run))));
          };
          i = i + d.i;
          j = i + d.j;
          from = omega arith;
          order = omega arith;
          to = u;
          clash =
              rw (
                clash-tested pile answers (i + d.i) (i + d.j) (valid-back (i + d.i) (omega arith) (omega arith))
                    (valid-back (i + d.j) (omega arith) u),
                ← (same-window run d.i (i + d.i) refl (omega arith)),
                ← (same-window run d.j (i + d.j) refl u),
              )
              d.contradict;
        }

-- where 18 is told, the pile is good and no run convicts
pub cut-18 : {pile answers : List ℕ} {room : ℕ} (why : Refusal) → why.code ≡ 18 → CutRefused pile answers room why
    → GoodPile pile answers × ((i j : ℕ) → ConvictsIn pile answers i j → ⊥)
cut-18 why e (code-15 bad) = absurd (omega (arith, e))
cut-18 why e (code-19 g short) = absurd (omega (arith, e))
cut-18 why e (code-18 g fits none) = (g, none)

module _ (pile answers : List ℕ) (good : GoodPile pile answers) (bytes : Bytes pile) where
  -- a run convicts by itself exactly where its bytes, with its answers, are a report by document 01's sentence
  pub convicts-exactly : (i j : ℕ) → i ≤ j → j < records_in pile
      → ConvictsIn pile answers i j ↔ IsReport (run_bytes i j pile) (run_answers i j answers)
  convicts-exactly i j order inside =
      let run : RunIn pile answers i j = record { good = good; order = order; inside = inside } in
      (to-report run bytes, to-convicts run)

  part-exactly : (i j : ℕ) → ConvictsIn pile answers i j ↔ ReportIn pile answers i j
  part-exactly i j = (
    λ c.
        let o : i ≤ j = omega (arith, c.from, c.order, c.to) in
        record { order = o; inside = c.inside; report = (convicts-exactly i j o c.inside).0 c },
    λ p. (convicts-exactly i j p.order p.inside).1 p.report,
  )

  -- So, with a buffer that has room for the pile, the cutter
  module _ (room : ℕ) (fits : length pile ≤ room) where
    -- takes a run exactly where it is the shortest part of the pile that is a report, and the first of those as short,
    pub taken-exactly : (i j : ℕ) → Takes pile answers room (Ok (i, j)) ↔ IsLeast (ReportIn pile answers) i j
    taken-exactly i j = (
      λ t. same-least part-exactly t.2,
      λ m. (good, fits, same-least (λ a b. ((part-exactly a b).1, (part-exactly a b).0)) m),
    )

    -- and answers that there is no run exactly where no part of the pile is a report
    pub none-exactly : Takes pile answers room (Err (refusal 18)) ↔ ((i j : ℕ) → ReportIn pile answers i j → ⊥)
    none-exactly = (
      λ t i j p. (cut-18 (refusal 18) refl t).1 i j ((part-exactly i j).1 p),
      λ none. code-18 good fits (λ i j c. none i j ((part-exactly i j).0 c)),
    )
