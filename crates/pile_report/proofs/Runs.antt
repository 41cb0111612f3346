-- The cutter's run: the run of the arrays is the run of the pile that they are of, and any two answers are the same.
use Rattle.check_response.specs.declared.Window.{Window}
use Rattle.std.specs.Prelude.{Err, Ok, Option, Result, Some}
use mathlib.Core.Path.{◌≡◌, refl, sym, subst, ap, ◌∙◌}
use mathlib.Core.Bool.{Bool, true, false, ◌&&◌}
use mathlib.Core.List.{List, []}
use Prim.Native.Nat.{ℕ, ◌-◌, ◌<◌, min}
use borrow.Author.Tests.{ne_eqb}
use native.Mathlib.Omega.{arith}
use lib.Dec.{T}
use Rattle.laws.specs.Written.{written}
use Rattle.laws.proofs.Written.{written-refused}
use Rattle.refusal.specs.declared.Refusal.{Refusal}
use Rattle.pile.specs.Pile.{records_in, pile_code}
use Rattle.pile.specs.Links.{linked_of}
use Rattle.pile.specs.Meaning.{GoodPile, WholePile}
use Rattle.pile.specs.Valid.{judged_at}
use Rattle.pile.proofs.Exactly.{judged-at}
use Rattle.pile_runs.specs.Clash.{valid}
use Rattle.pile_runs.specs.Spans.{Answers}
use Rattle.pile_runs.specs.Convict.{flag_in, Convicts}
use Rattle.pile_runs.proofs.Find.{run_settled}
use Rattle.pile_runs.proofs.SamePile.{linked-answer}
use Rattle.pile_report.specs.Promises.{between}
use Rattle.pile_report.specs.Report.{judged, joined}
use Rattle.pile_report.specs.Taking.{CutRefused, code-15, code-19, code-18, Takes}
use Rattle.pile_report.proofs.Says.{pile-refused}

-- the flag of a record after the first says whether it is linked
pub joined-later : (pile : List ℕ) (k : ℕ) → 0 < k → joined pile k ≡ linked_of pile k
unfolding joined
joined-later pile k l = rw (ne_eqb k 0 (λ z. omega arith)) refl

-- between two valid records the link is told as it is
between-valid : (v : ℕ → Result Window Refusal) (l : ℕ → Bool) (k : ℕ) → 0 < k → T (valid (v (k - 1))) → T (valid (v k))
    → between v l k ≡ l k
between-valid v l k z p q = rw (ne_eqb k 0 (λ e. omega arith)) (both (valid (v (k - 1))) (valid (v k)) p q)
  where
    both : (a b : Bool) → T a → T b → a && (b && l k) ≡ l k
    both true true p q = refl
    both true false p q = absurd q
    both false b p q = absurd p

-- the run by flags that tell the links between valid records is the run by the links of the pile
pub run-linked : (pile : List ℕ) (v : ℕ → Result Window Refusal) (ls : List Bool) (r : Option (ℕ × ℕ)) → WholePile pile
    → ((k : ℕ) → k < 16 → flag_in ls k ≡ between v (linked_of pile) k)
    → Answers (Convicts v (flag_in ls) (min (records_in pile) 16)) r
    → Answers (Convicts v (linked_of pile) (records_in pile)) r
run-linked pile v ls r g f a =
    let n = records_in pile in
    let l = linked_of pile in
    let whole : min n 16 ≡ n = omega (arith, g.to) in
    linked-answer v (flag_in ls) l n (λ i z u p q. f i (omega (arith, g.to)) ∙ between-valid v l i z p q) r
    (subst (λ (m : ℕ). Answers (Convicts v (flag_in ls) m) r) whole a)

-- what the judge of a good pile says of record k is the verdict on it
pub judged-told : (pile answers : List ℕ) → GoodPile pile answers → (k : ℕ) → k < records_in pile
    → {r : Result Window Refusal} → r ≡ judged_at pile answers k → r ≡ judged pile answers k
judged-told pile answers g k h e = e ∙ sym (judged-at pile answers k g h)

-- the answers, of which any two are the same
module _ (pile answers : List ℕ) (room : ℕ) where
  -- where code 15 applies, which code has as x, both clauses of the cutter
  pub cut-bad : {x : Refusal} (o : List ℕ) → x ≡ pile_code pile answers → (x.code ≡ 0 → ⊥)
      → Takes pile answers room (Err x) × (o ≡ written x.code [] o)
  cut-bad {x} o e h =
      let r = pile-refused pile answers e h in
      (rw r.0 (code-15 r.1), written-refused x.code [] o h)

  -- a refusal leaves no run,
  no_run : (i j : ℕ) (why : Refusal) → Takes pile answers room (Ok (i, j)) → CutRefused pile answers room why → ⊥
  no_run i j why p (code-15 bad) = bad p.0
  no_run i j why p (code-19 g short) = omega (arith, p.1)
  no_run i j why p (code-18 g fits none) = none i j p.2.holds

  -- and only one is right
  cut-refused-once : (x y : Refusal) → CutRefused pile answers room x → CutRefused pile answers room y → x ≡ y
  cut-refused-once x y (code-15 bad) (code-15 worse) = refl
  cut-refused-once x y (code-15 bad) (code-19 g short) = absurd (bad g)
  cut-refused-once x y (code-15 bad) (code-18 g fits none) = absurd (bad g)
  cut-refused-once x y (code-19 g short) (code-15 bad) = absurd (bad g)
  cut-refused-once x y (code-19 g short) (code-19 h shorter) = refl
  cut-refused-once x y (code-19 g short) (code-18 h fits none) = absurd (omega arith)
  cut-refused-once x y (code-18 g fits none) (code-15 bad) = absurd (bad g)
  cut-refused-once x y (code-18 g fits none) (code-19 h short) = absurd (omega arith)
  cut-refused-once x y (code-18 g fits none) (code-18 h l m) = refl

  pub takes-once : (r s : Result (ℕ × ℕ) Refusal) → Takes pile answers room r → Takes pile answers room s → r ≡ s
  takes-once (Ok (i, j)) (Ok (a, b)) p q =
      let n = records_in pile in
      let e = run_settled (judged pile answers) (linked_of pile) n (Some (i, j)) (Some (a, b)) p.2 q.2 in
      cc
  takes-once (Ok (i, j)) (Err why) p q = absurd (no_run i j why p q)
  takes-once (Err why) (Ok (i, j)) p q = absurd (no_run i j why q p)
  takes-once (Err x) (Err y) p q = ap Err (cut-refused-once x y p q)
