-- Cut evidence stands by itself: the bytes that the cutter takes out of a pile, with their records' own answers, are a
-- report by document 01, and the pair that the check of it names is its first and its last record, which are the
-- records i and j of the pile.
use Rattle.refusal.specs.declared.Refusal.{Refusal}
use Rattle.std.specs.Prelude.{Ok, Result}
use mathlib.Core.Path.{◌≡◌, refl, subst}
use mathlib.Core.List.{List}
use Prim.Native.Nat.{ℕ, ◌+◌, ◌-◌, ◌*◌, ◌≤◌, ◌<◌}
use native.Mathlib.Omega.{arith}
use lib.ListN.{length, take, drop}
use lib.Seq.{take_at}
use Rattle.laws.specs.Bytes.{Bytes}
use Rattle.laws.specs.Pairs.{IsLeast, Hits}
use Rattle.laws.specs.Written.{written}
use Rattle.pile.specs.Pile.{records_in}
use Rattle.pile.specs.Links.{linked_of}
use Rattle.pile_runs.specs.Convict.{Contradiction}
use Rattle.pile_runs.specs.Searched.{Exposes}
use Rattle.pile_runs.proofs.ByEnds.{clean-part, least-ends}
use Rattle.pile_report.specs.Report.{judged, Reports}
use Rattle.pile_report.specs.Taking.{Takes, run_bytes, run_answers}
use Rattle.pile_report.specs.Meaning.{IsReport}
use Rattle.pile_report.proofs.Says.{report-once}
use Rattle.pile_report.proofs.Exactly.{names}
use Rattle.pile_report.proofs.CutBytes.{RunIn, length_run, count-run}
use Rattle.pile_report.proofs.CutReports.{place_in, valid-in, same-verdict, taken-exactly}

-- Where the cutter takes a run out of a pile, which is bytes:
module _ (pile answers : List ℕ) (bytes : Bytes pile) (room i j : ℕ) (t : Takes pile answers room (Ok (i, j))) where
  -- the two ends of the run contradict
  ends : IsLeast (Hits (Exposes (judged pile answers) (linked_of pile)) (records_in pile)) i j
  ends = least-ends t.2

  order : i < j
  order = ends.holds.order

  pub taken-run : RunIn pile answers i j
  taken-run = record { good = t.0; order = omega (arith, order); inside = ends.holds.inside }

  -- record k of the run has the verdict of record m of the pile, which it was
  kept : (k m : ℕ) → i + k ≡ m → m ≤ j
      → judged (run_bytes i j pile) (run_answers i j answers) k ≡ judged pile answers m
  kept k m e u = same-verdict taken-run k m e u (valid-in taken-run bytes t.2.holds m (omega arith) u)

  -- a pair of the run that contradicts is, in the pile, the two ends of a part of the run,
  pair-in-pile : (a b : ℕ)
      → Contradiction (judged (run_bytes i j pile) (run_answers i j answers)) (records_in (run_bytes i j pile)) a b
      → Hits (Exposes (judged pile answers) (linked_of pile)) (records_in pile) (i + a) (i + b)
  pair-in-pile a b h =
      let o : a < b = h.order in
      let u : i + b ≤ j = place_in taken-run b h.inside in
      let c = ends.holds.holds.clean in
      record {
        order = omega arith;
        inside = omega (arith, taken-run.inside);
        holds = record {
          clean = clean-part (judged pile answers) (linked_of pile) i j (i + a) (i + b) c (omega arith) u;
          clash = rw (kept a (i + a) refl (omega arith), kept b (i + b) refl u) at h.holds;
        };
      }

  -- so that the run's least pair is its first and its last record
  least-in : IsLeast
      (Contradiction (judged (run_bytes i j pile) (run_answers i j answers)) (records_in (run_bytes i j pile))) 0 (j - i)
  least-in = record {
    holds = record {
      order = omega (arith, order);
      inside = omega (arith, count-run taken-run);
      holds =
          rw (kept 0 i (omega arith) taken-run.order, kept (j - i) j (omega (arith, order)) (omega arith))
          ends.holds.holds.clash;
    };
    shortest = λ a b h. omega (arith, ends.shortest (i + a) (i + b) (pair-in-pile a b h));
    first = λ a b h e. omega arith;
  }

  -- What it takes is a report by document 01,
  pub cut-is-report : IsReport (run_bytes i j pile) (run_answers i j answers)
  cut-is-report = ((taken-exactly pile answers t.0 bytes room t.1 i j).0 t).holds.report

  -- which names its first and its last record,
  pub cut-names : Reports (run_bytes i j pile) (run_answers i j answers) (Ok (0, (j - i)))
  cut-names = names (run_bytes i j pile) (run_answers i j answers) cut-is-report 0 (j - i) least-in

  -- so that the check of it answers nothing else;
  pub cut_stands : (r : Result (ℕ × ℕ) (Refusal × ℕ)) → Reports (run_bytes i j pile) (run_answers i j answers) r → r ≡ Ok (0, (j - i))
  cut_stands r s = report-once (run_bytes i j pile) (run_answers i j answers) r (Ok (0, (j - i))) s cut-names

  -- it stands in the first j - i + 1 records of the buffer,
  pub cut-front : (out : List ℕ) → take (4096 * (j - i + 1)) (written 0 (run_bytes i j pile) out) ≡ run_bytes i j pile
  cut-front out =
      take_at (run_bytes i j pile) (drop (length (run_bytes i j pile)) out) (4096 * (j - i + 1)) (length_run taken-run)

  -- so that the check of these answers the same
  pub front-stands : (out : List ℕ) (r : Result (ℕ × ℕ) (Refusal × ℕ))
      → Reports (take (4096 * (j - i + 1)) (written 0 (run_bytes i j pile) out)) (run_answers i j answers) r
      → r ≡ Ok (0, (j - i))
  front-stands out r s = cut_stands r (subst (λ (l : List ℕ). Reports l (run_answers i j answers) r) (cut-front out) s)
