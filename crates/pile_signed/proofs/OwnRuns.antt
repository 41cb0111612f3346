-- The answers of a run that is cut out are those of its records in the pile, since the rand, which alone is changed,
-- plays no part in them. So what is cut out stands by itself, with no answers beside it.
use Rattle.refusal.specs.declared.Refusal.{Refusal}
use Rattle.std.specs.Prelude.{Err, Ok, Result}
use mathlib.Core.Path.{◌≡◌, sym, subst, ap, ap₂, ◌∙◌}
use mathlib.Core.List.{List}
use mathlib.Core.Logic.{◌↔◌}
use Prim.Native.Nat.{ℕ, zero, suc, ◌+◌, ◌-◌, ◌*◌, ◌/◌, ◌%◌, ◌≤◌}
use native.Mathlib.Nat.{add-zero}
use native.Mathlib.Omega.{arith}
use lib.ListN.{length, take, drop, length-take, length-drop}
use lib.Seq.{ext_get_or, get_or-take, get_or-drop, take_at, length-take-le}
use Rattle.laws.specs.Bytes.{Bytes}
use Rattle.laws.specs.Pairs.{IsLeast}
use Rattle.laws.specs.Pasted.{pasted}
use Rattle.laws.specs.Written.{written}
use Rattle.laws.proofs.Pasted.{length_part}
use Rattle.pile.specs.Meaning.{WholePile}
use Rattle.pile.specs.Pile.{record_at, key_in}
use Rattle.refusal.specs.Refusal.{refusal}
use Rattle.pile_report.specs.Meaning.{IsReport, ReportIn}
use Rattle.pile_report.specs.Report.{Reports}
use Rattle.pile_report.specs.Taking.{Takes, run_bytes, run_answers}
use Rattle.pile_report.proofs.Behind.{same-response}
use Rattle.pile_report.proofs.CutBytes.{RunIn, count-run, record-first, record-later, record-alike}
use Rattle.pile_report.proofs.CutReports.{taken-exactly, none-exactly}
use Rattle.pile_report.proofs.CutStands.{taken-run, cut-is-report, cut_stands, cut-front}
use Rattle.pile_runs.proofs.SamePile.{same-least}
use Rattle.check_signatures.specs.SignatureAnswers.{delegated, responded}
use Rattle.pile_signed.specs.OwnAnswers.{delegated_at, responded_at, own_answers}
use Rattle.pile_signed.specs.Meaning.{IsSignedReport, SignedReportIn}
use Rattle.pile_signed.proofs.Own.{own_answer, own-length, own_at, own-good}
use Rattle.pile_signed.proofs.Alone.{report-alone}

module _ {pile answers : List ℕ} {i j : ℕ} (run : RunIn pile answers i j) where
  long : 32 ≤ length (record_at pile i)
  unfolding record_at
  long = simp (length-take, length-drop) (omega (arith, run.order, run.inside, run.good.pile-whole.exact))

  -- record k of the run has the key of its record in the pile,
  same_key_lem : (k : ℕ) → k ≤ j - i → key_in (record_at (run_bytes i j pile) k) ≡ key_in (record_at pile (i + k))
  unfolding pasted
  same_key_lem zero h =
      ap key_in (record-first run)
      ∙ take_at (take 32 (record_at pile i)) _ 32 (length-take-le 32 (record_at pile i) long)
      ∙ ap (λ (x : ℕ). key_in (record_at pile x)) (sym (add-zero i))
  same_key_lem (suc k) h = ap key_in (record-later run (suc k) h (omega arith))

  -- and its two answers
  same-answers : (k : ℕ) → k ≤ j - i
      → (delegated_at (run_bytes i j pile) k ≡ delegated_at pile (i + k))
      × (responded_at (run_bytes i j pile) k ≡ responded_at pile (i + k))
  same-answers k h =
      let p = same-response (record-alike run k h) in
      (ap₂ delegated (same_key_lem k h) p, ap responded p)

  same_answer : (m : ℕ) → m / 2 ≤ j - i → own_answer (run_bytes i j pile) m ≡ own_answer pile (2 * i + m)
  unfolding own_answer
  same_answer m h =
      let s = same-answers (m / 2) h in
      let e : (2 * i + m) % 2 ≡ m % 2 = omega arith in
      let f : (2 * i + m) / 2 ≡ i + m / 2 = omega arith in
      rw (e, f, ← s.0, ← s.1)

  pub own-run : own_answers (run_bytes i j pile) ≡ run_answers i j (own_answers pile)
  own-run =
      let r = run_bytes i j pile in
      let o : i ≤ j = run.order in
      let n : length (own_answers r) ≡ 2 * (j - i + 1) = own-length r ∙ ap (λ (x : ℕ). 2 * x) (count-run run) in
      ext_get_or 0 (own_answers r) (run_answers i j (own_answers pile))
      (n
      ∙ omega arith
      ∙ sym
      (length_part (own_answers pile) (2 * i) (2 * j + 2) (omega arith)
      (omega (arith, own-length pile, run.inside))))
      (λ m u.
      own_at r m (omega (arith, own-length r))
      ∙ same_answer m (omega arith)
      ∙ sym
      (get_or-take (2 * j + 2 - 2 * i) (drop (2 * i) (own_answers pile)) m 0 (omega arith)
      ∙ get_or-drop (2 * i) (own_answers pile) m 0
      ∙ own_at pile (2 * i + m) (omega (arith, run.inside))))

-- ---- demand 3

module _ (pile : List ℕ) (whole : WholePile pile) (bytes : Bytes pile) where
  part-alone : (i j : ℕ) → ReportIn pile (own_answers pile) i j ↔ SignedReportIn pile i j
  part-alone i j = (
    λ p.
        let run : RunIn pile (own_answers pile) i j =
        record { good = own-good pile whole; order = p.order; inside = p.inside } in
        record {
          order = p.order;
          inside = p.inside;
          report =
              (report-alone (run_bytes i j pile)).0
              (subst (λ (a : List ℕ). IsReport (run_bytes i j pile) a) (sym (own-run run)) p.report);
        },
    λ p.
        let run : RunIn pile (own_answers pile) i j =
        record { good = own-good pile whole; order = p.order; inside = p.inside } in
        record {
          order = p.order;
          inside = p.inside;
          report =
              subst (λ (a : List ℕ). IsReport (run_bytes i j pile) a) (own-run run)
              ((report-alone (run_bytes i j pile)).1 p.report);
        },
  )

  -- With a buffer that has room for the pile, the cutter
  module _ (room : ℕ) (fits : length pile ≤ room) where
    -- takes a run exactly where it is the shortest part of the pile that is a report by itself, the first among equals,
    pub taken-alone : (i j : ℕ) → Takes pile (own_answers pile) room (Ok (i, j)) ↔ IsLeast (SignedReportIn pile) i j
    taken-alone i j =
        let t = taken-exactly pile (own_answers pile) (own-good pile whole) bytes room fits i j in (
          λ a. same-least part-alone (t.0 a),
          λ m. t.1 (same-least (λ x y. ((part-alone x y).1, (part-alone x y).0)) m),
        )

    -- and none exactly where no part of the pile is one
    pub none-alone : Takes pile (own_answers pile) room (Err (refusal 18)) ↔ ((i j : ℕ) → SignedReportIn pile i j → ⊥)
    none-alone =
        let t = none-exactly pile (own_answers pile) (own-good pile whole) bytes room fits in (
          λ a i j p. t.0 a i j ((part-alone i j).1 p),
          λ n. t.1 (λ i j p. n i j ((part-alone i j).0 p)),
        )

-- Where the cutter takes a run out of a pile, which is bytes:
module _
    (pile : List ℕ) (bytes : Bytes pile) (room i j : ℕ) (t : Takes pile (own_answers pile) room (Ok (i, j))) where
  its_own : own_answers (run_bytes i j pile) ≡ run_answers i j (own_answers pile)
  its_own = own-run (taken-run pile (own_answers pile) bytes room i j t)

  -- the bytes taken are a report with nothing beside them,
  pub cut-alone : IsSignedReport (run_bytes i j pile)
  cut-alone =
      (report-alone (run_bytes i j pile)).0
      (subst (λ (a : List ℕ). IsReport (run_bytes i j pile) a) (sym its_own)
      (cut-is-report pile (own_answers pile) bytes room i j t))

  -- and the check of it names its first and its last record;
  pub stands-alone : (r : Result (ℕ × ℕ) (Refusal × ℕ)) → Reports (run_bytes i j pile) (own_answers (run_bytes i j pile)) r → r ≡ Ok (0, (j - i))
  stands-alone r s =
      cut_stands pile (own_answers pile) bytes room i j t r
      (subst (λ (a : List ℕ). Reports (run_bytes i j pile) a r) its_own s)

  -- the first j - i + 1 records of the buffer are that report,
  pub front-alone : (out : List ℕ) → IsSignedReport (take (4096 * (j - i + 1)) (written 0 (run_bytes i j pile) out))
  front-alone out = subst IsSignedReport (sym (cut-front pile (own_answers pile) bytes room i j t out)) cut-alone

  -- and the check of these answers the same
  pub front-stands-alone : (out : List ℕ) (r : Result (ℕ × ℕ) (Refusal × ℕ))
      → Reports (take (4096 * (j - i + 1)) (written 0 (run_bytes i j pile) out))
      (own_answers (take (4096 * (j - i + 1)) (written 0 (run_bytes i j pile) out))) r
      → r ≡ Ok (0, (j - i))
  front-stands-alone out r s =
      stands-alone r
      (subst (λ (l : List ℕ). Reports l (own_answers l) r) (cut-front pile (own_answers pile) bytes room i j t out) s)
