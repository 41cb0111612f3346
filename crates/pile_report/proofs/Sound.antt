-- What the check says of a sound pile: a pair where two of its windows contradict, and else 18. And that a sound pile
-- of bytes is what document 01 asks of a report but the pair.
use Rattle.check_response.specs.declared.Window.{Window}
use Rattle.std.specs.Prelude.{Err, Ok, Result}
use Prim.Native.Nat.{ℕ, ◌-◌, ◌<◌}
use mathlib.Core.Path.{◌≡◌, refl, sym, subst, ◌∙◌}
use mathlib.Core.Bool.{Bool, not}
use mathlib.Core.List.{List}
use native.Mathlib.Omega.{arith}
use lib.Dec.{T}
use Rattle.laws.specs.Bytes.{Bytes}
use Rattle.refusal.specs.declared.Refusal.{Refusal}
use Rattle.pile.specs.Pile.{records_in, record_at}
use Rattle.pile.specs.Valid.{window_at}
use Rattle.pile.specs.Meaning.{ValidRecord, IsLinked, ZeroRand}
use Rattle.pile.proofs.Exactly.{valid-exactly, valid-link-exactly, rand-exactly}
use Rattle.pile_runs.specs.Convict.{Contradiction}
use Rattle.pile_runs.specs.Clash.{windows_clash, valid}
use Rattle.pile_report.specs.Report.{judged, joined, refused, loose, PileRefused, Reports, report_number}
use Rattle.pile_report.specs.Report.{of-record, code-17, code-18, code-15, of-records}
use Rattle.pile_report.specs.Meaning.{Sound, Accepts, Decides}
use Rattle.pile_report.proofs.Runs.{joined-later}
use Rattle.pile_report.proofs.Exactly.{joined-first}

module _ (pile answers : List ℕ) (d : Sound pile answers) where
  pub none-refused : (k : ℕ) → k < records_in pile → T (refused (judged pile answers) k) → ⊥
  none-refused k l t = subst (λ (x : Result Window Refusal). T (not (valid x))) (d.all_valid k l) t

  pub none-loose : (k : ℕ) → k < records_in pile → T (loose (joined pile) k) → ⊥
  none-loose k l t = subst (λ (x : Bool). T (not x)) (d.all-joined k l) t

  -- a refusal is 18, and no two windows contradict
  refused-clear : (why : Refusal) (k : ℕ) → PileRefused pile answers why k
      → (why.code ≡ 18) × ((i j : ℕ) → Contradiction (judged pile answers) (records_in pile) i j → ⊥)
  refused-clear why k (code-15 bad) = absurd (bad d.good)
  refused-clear why k (of-records g (of-record f e)) = absurd (none-refused k f.inside f.holds)
  refused-clear why k (of-records g (code-17 f h)) = absurd (none-loose k h.inside h.holds)
  refused-clear why k (of-records g (code-18 f h none)) = (refl, none)

  -- nothing else than a pair or 18 is said,
  pub sound-decides : (r : Result (ℕ × ℕ) (Refusal × ℕ)) → Reports pile answers r → Decides r
  sound-decides (Ok (i, j)) s = tt
  sound-decides (Err (why, k)) s = (refused-clear why k s).0

  -- where it is 18, no two windows contradict,
  pub sound-clear : (r : Result (ℕ × ℕ) (Refusal × ℕ)) → Reports pile answers r → report_number r ≡ 18
      → (i j : ℕ) → Contradiction (judged pile answers) (records_in pile) i j → ⊥
  sound-clear (Ok (i, j)) s e = absurd (omega (arith, e))
  sound-clear (Err (why, k)) s e = (refused-clear why k s).1

  -- and a pair is where an earlier window lies wholly after a later one, whichever two they are
  pub sound-convicts : (i j : ℕ) → i < j → j < records_in pile
      → T (windows_clash (window_at pile i) (window_at pile j))
      → (r : Result (ℕ × ℕ) (Refusal × ℕ)) → Reports pile answers r → Accepts r
  sound-convicts i j o l c (Ok (a, b)) s = tt
  sound-convicts i j o l c (Err (why, k)) s =
      (refused-clear why k s).1 i j
      (record {
        order = o;
        inside = l;
        holds = rw (d.all_valid i (omega arith), d.all_valid j l) c;
      })

  -- of a pile of bytes, each record is valid by document 01's sentence,
  pub sound-valid : Bytes pile → (k : ℕ) → k < records_in pile → ValidRecord pile answers k
  sound-valid bytes k l = (valid-exactly pile answers k bytes).0 (d.all_valid k l)

  -- each after the first is linked by it,
  pub sound-linked : Bytes pile → (k : ℕ) → 0 < k → k < records_in pile
      → IsLinked (record_at pile (k - 1)) (record_at pile k)
  sound-linked bytes k z l =
      (valid-link-exactly pile answers k z (sound-valid bytes (k - 1) (omega arith)) (sound-valid bytes k l)).0
      (sym (joined-later pile k z) ∙ d.all-joined k l)

  -- and the first rand is all zero
  pub sound-rand : ZeroRand pile
  sound-rand =
      (rand-exactly pile).0 (sym (joined-first pile) ∙ d.all-joined 0 (omega (arith, d.good.pile-whole.from)))
