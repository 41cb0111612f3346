-- The check of a report and the cutter agree: the pair that the check names is the two ends of the run that the cutter
-- takes, so that the cutter finds a run in every report. A run that was cut out is, when it is cut again, taken whole.
use Rattle.check_response.specs.declared.Window.{Window}
use Rattle.refusal.specs.declared.Refusal.{Refusal}
use Rattle.std.specs.Prelude.{Ok, Option, Result, Some}
use mathlib.Core.Path.{◌≡◌, subst, ap, ◌∙◌}
use mathlib.Core.Bool.{Bool}
use mathlib.Core.List.{List}
use Prim.Native.Nat.{ℕ, ◌-◌, ◌≤◌, ◌<◌}
use native.Mathlib.Omega.{arith}
use lib.Dec.{T}
use lib.ListN.{length}
use Rattle.laws.specs.Bytes.{Bytes}
use Rattle.pile.specs.Pile.{records_in}
use Rattle.pile.specs.Links.{linked_of}
use Rattle.pile_runs.specs.Clash.{valid}
use Rattle.pile_runs.specs.Spans.{Answers}
use Rattle.pile_runs.specs.Convict.{Convicts, Contradiction}
use Rattle.pile_runs.proofs.Find.{once, run_of, run-exists}
use Rattle.pile_runs.proofs.Pair.{pair-of-run}
use Rattle.pile_report.specs.Report.{judged, joined, Reports}
use Rattle.pile_report.specs.Taking.{Takes, run_bytes, run_answers, taken_bytes}
use Rattle.pile_report.proofs.Says.{not-not}
use Rattle.pile_report.proofs.Runs.{joined-later, takes-once}
use Rattle.pile_report.proofs.CutBytes.{same_bytes}
use Rattle.pile_report.proofs.CutStands.{taken-run, cut-names}

-- where all records are valid and linked, the pair is the two ends of the run
run-of-pair : (v : ℕ → Result Window Refusal) (l : ℕ → Bool) (n : ℕ) → ((k : ℕ) → k < n → T (valid (v k)))
    → ((k : ℕ) → 0 < k → k < n → T (l k)) → (r : Option (ℕ × ℕ)) → Answers (Contradiction v n) r → Answers (Convicts v l n) r
run-of-pair v l n p q r m =
    let s = run_of v l n in
    let t = pair-of-run v l n p q s (run-exists v l n) in
    let e = once (Contradiction v n) (λ i j h. omega (arith, h.order)) s r t m in
    subst (λ (x : Option (ℕ × ℕ)). Answers (Convicts v l n) x) e (run-exists v l n)

-- the pair that is named is the run that is taken
pub named-is-cut : (pile answers : List ℕ) (room a b : ℕ) (r : Result (ℕ × ℕ) Refusal) → Reports pile answers (Ok (a, b))
    → length pile ≤ room → Takes pile answers room r → r ≡ Ok (a, b)
named-is-cut pile answers room a b r s h t =
    let n = records_in pile in
    let says = s.1 in
    let run =
    run-of-pair (judged pile answers) (linked_of pile) n (λ k u. not-not (valid (judged pile answers k)) (says.0 k u))
    (λ k z u. subst T (joined-later pile k z) (not-not (joined pile k) (says.1 k u))) (Some (a, b)) says.2 in
    takes-once pile answers room r (Ok (a, b)) t (s.0, h, run)

-- Of a run that was cut out and is cut again, with room for it:
module _
    (pile answers : List ℕ) (bytes : Bytes pile) (room i j : ℕ) (t : Takes pile answers room (Ok (i, j))) (again : ℕ)
    (fits : length (run_bytes i j pile) ≤ again) (r : Result (ℕ × ℕ) Refusal)
    (s : Takes (run_bytes i j pile) (run_answers i j answers) again r) where
  -- the run from its first to its last record is taken,
  pub cut_again : r ≡ Ok (0, (j - i))
  cut_again =
      named-is-cut (run_bytes i j pile) (run_answers i j answers) again 0 (j - i) r
      (cut-names pile answers bytes room i j t) fits s

  -- and what is written is the same bytes
  pub same-again : taken_bytes r (run_bytes i j pile) ≡ run_bytes i j pile
  same-again =
      ap (λ (x : Result (ℕ × ℕ) Refusal). taken_bytes x (run_bytes i j pile)) cut_again
      ∙ same_bytes (taken-run pile answers bytes room i j t)
