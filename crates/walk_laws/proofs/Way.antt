-- A pile that the check with its own Ed25519 accepts goes the whole way, whoever made it.
use Rattle.refusal.specs.declared.Refusal.{Refusal}
use Rattle.std.specs.Prelude.{Err, None, Ok, Option, Result, Some}
use Prim.Native.Nat.{ℕ, ◌-◌, ◌*◌, ◌≤◌}
use mathlib.Core.Path.{◌≡◌, refl, sym, subst, ap, ap₂, ◌∙◌}
use mathlib.Core.List.{List}
use native.Mathlib.Nat.{le_refl}
use native.Mathlib.Omega.{arith}
use borrow.Author.Tests.{le-ltb}
use lib.ListN.{length, take, drop}
use lib.Seq.{take_at}
use Rattle.laws.specs.Bytes.{Bytes}
use Rattle.laws.specs.Written.{written}
use Rattle.pile.specs.Pile.{records_in}
use Rattle.pile.specs.Links.{linked_of}
use Rattle.pile_runs.specs.Spans.{Answers}
use Rattle.pile_runs.proofs.Find.{run_of, run-exists}
use Rattle.refusal.specs.Refusal.{refusal}
use Rattle.pile_report.specs.Report.{judged, Reports}
use Rattle.pile_report.specs.Taking.{ConvictsIn, code-18, Takes, run_bytes}
use Rattle.pile_report.proofs.Says.{report-once}
use Rattle.pile_report.proofs.Agree.{named-is-cut}
use Rattle.pile_report.proofs.CutStands.{taken-run, cut-names}
use Rattle.pile_signed.specs.OwnAnswers.{own_answers}
use Rattle.pile_signed.proofs.OwnRuns.{own-run}
use Rattle.report_write.specs.Entries.{text_of}
use Rattle.report_write.specs.Published.{Publishes}
use Rattle.report_write.proofs.Piles.{publishes-once}
use Rattle.report_write.proofs.RoundTrip.{report-back}
use Rattle.report_text.specs.Forwarded.{pile_of, forwarded_number}
use Rattle.report_laws.proofs.CutText.{signed-text-is-cut-and-written}
use Rattle.report_laws.proofs.Longest.{longest}
use Rattle.report_laws.proofs.Written.{run-bytes, written-is-report}
use Rattle.walk_laws.specs.Way.{Checks, Writes, Reads, Cuts, Accepted, Arrived, Posted, WholeWay}

-- what stands at the front of a buffer once p was written
front : {left : List ℕ} (p out : List ℕ) (n : ℕ) → left ≡ written 0 p out → length p ≡ n → take n left ≡ p
front p out n e l = ap (take n) e ∙ take_at p (drop (length p) out) n l

-- the run that the pair names is taken
taken : (pile answers : List ℕ) (i j : ℕ) → Reports pile answers (Ok (i, j)) → Takes pile answers (length pile) (Ok (i, j))
taken pile answers i j s =
    by (run_of (judged pile answers) (linked_of pile) (records_in pile))
    (run-exists (judged pile answers) (linked_of pile) (records_in pile))
  where
    by : (x : Option (ℕ × ℕ)) → Answers (ConvictsIn pile answers) x → Takes pile answers (length pile) (Ok (i, j))
    by (Some (a, b)) m =
        let t : Takes pile answers (length pile) (Ok (a, b)) = (s.0, le_refl (length pile), m) in
        subst (Takes pile answers (length pile)) (named-is-cut pile answers _ i j (Ok (a, b)) s (le_refl _) t) t
    by None m =
        let e : ◌≡◌ {A = Result (ℕ × ℕ) Refusal} (Err (refusal 18)) (Ok (i, j))
        = named-is-cut pile answers _ i j (Err (refusal 18)) s (le_refl _)
        (code-18 s.0 (le_refl (length pile)) m) in
        let z : ◌≡◌ {A = ℕ} 0 1 = cc in absurd (omega arith)

-- ---- of a pile in which the check names records i and j:

module _ (pile : List ℕ) (i j : ℕ) (named : Checks pile (Ok (i, j))) where
  just-named : Accepted pile i j
  just-named = record { named = named; just-that = λ r c. report-once pile (own_answers pile) r (Ok (i, j)) c named }

  -- its text is told whole, where there is room for every report,
  whole-text : (room : ℕ) → 87609 ≤ room
      → Publishes pile (own_answers pile) room (Ok (length (text_of pile)))
  whole-text room h =
      let l = longest pile (own_answers pile) i j named in
      record { report = Ok (i, j); checked = named; answer = rw (le-ltb room (length (text_of pile)) (omega arith)) refl }

  text-told : (out : List ℕ) → 87609 ≤ length out → (p : Result ℕ (Refusal × ℕ)) (left : List ℕ) → Writes pile out p left
      → (p ≡ Ok (length (text_of pile))) × (take (length (text_of pile)) left ≡ text_of pile)
  text-told out h p left w =
      let e = publishes-once pile (own_answers pile) (length out) p _ w.answer (whole-text (length out) h) in
      (e, front (text_of pile) out _ (rw e at w.bytes) refl)

  most : length pile ≤ 65536
  most = omega (arith, named.0.pile-whole.exact, named.0.pile-whole.to)

  -- and the pile arrives with it, as it is bytes
  module _ (bytes : Bytes pile) where
    arrives : (out : List ℕ) → length pile ≤ length out → (x : Result ℕ Refusal) (left : List ℕ) → Reads (text_of pile) out x left
        → Arrived pile i j x left
    arrives out h x left r =
        let back = report-back pile (own_answers pile) i j (length out) bytes named h in
        let e = r.answer ∙ back.0 in
        let same =
        front pile out (4096 * records_in pile) (rw (e, back.1) at r.bytes)
        (omega (arith, named.0.pile-whole.exact)) in
        record { answer = e; same = same; accepted = rw same just-named }

    posts : Posted (text_of pile) pile i j
    posts = record {
      report = written-is-report pile (own_answers pile) i j 65536 bytes named most;
      read = λ out h x left r. arrives out (omega (arith, most)) x left r;
    }

-- ---- and of the run that the pair names, cut out of it:

module _ (pile : List ℕ) (i j : ℕ) (named : Checks pile (Ok (i, j))) (bytes : Bytes pile) where
  abbrev run : List ℕ
  run = run_bytes i j pile

  cut-taken : Takes pile (own_answers pile) (length pile) (Ok (i, j))
  cut-taken = taken pile (own_answers pile) i j named

  -- the check names its first and its last record,
  run-named : Checks run (Ok (0, (j - i)))
  run-named =
      subst (λ (a : List ℕ). Reports run a (Ok (0, (j - i))))
      (sym (own-run (taken-run pile (own_answers pile) bytes (length pile) i j cut-taken)))
      (cut-names pile (own_answers pile) bytes (length pile) i j cut-taken)

  -- and its text is what is cut from the text of the pile
  text-cut : (out : List ℕ) → 87609 ≤ length out → (f : Result (ℕ × ℕ × ℕ) Refusal) (left : List ℕ) → Cuts (text_of pile) out f left
      → (f ≡ Ok (i, j, (length (text_of (run_bytes i j pile)))))
      × (take (length (text_of (run_bytes i j pile))) left ≡ text_of (run_bytes i j pile))
  text-cut out h f left c =
      let back : pile_of (text_of pile) ≡ pile
      = (report-back pile (own_answers pile) i j 65536 bytes named (most pile i j named)).1 in
      let same =
      signed-text-is-cut-and-written (text_of pile) (records_in pile) i j (posts pile i j named bytes).report
      (rw back cut-taken) (length out) f (Ok (length (text_of run))) c.answer
      (rw back (whole-text run 0 (j - i) run-named (length out) h)) in
      let left_is = ap₂ (λ (g : Result (ℕ × ℕ × ℕ) Refusal) (p : List ℕ). written (forwarded_number g) p out) same.0
      (same.1 ∙ ap (λ (p : List ℕ). text_of (run_bytes i j p)) back) in
      (same.0, front (text_of run) out _ (c.bytes ∙ left_is) refl)

  pub goes-the-way : WholeWay pile i j
  goes-the-way = record {
    accepted = just-named pile i j named;
    told = text-told pile i j named;
    posted = posts pile i j named bytes;
    cut = text-cut;
    cut-posted = posts run 0 (j - i) run-named (run-bytes i j pile bytes);
  }
