-- How a walk stands, as a number: nothing is said of it exactly beside a refusal, so that no loop that goes on where
-- the number says so goes on past one.
use Rattle.refusal.specs.declared.Refusal.{Refusal}
use Rattle.std.specs.Prelude.{Err, Ok, Result}
use Prim.Native.Nat.{ℕ}
use mathlib.Core.Path.{◌≡◌, refl}
use mathlib.Core.List.{List}
use mathlib.Core.Logic.{◌↔◌}
use mathlib.Core.Bool.{Bool, true, false, cond}
use native.Mathlib.Omega.{arith}
use borrow.Author.Tests.{eqb-true, eq-eqb}
use lib.Dec.{eqb}
use Rattle.check_response.specs.declared.Window.{Window}
use Rattle.pile_report.specs.Meaning.{Clear}
use Rattle.pile_report.specs.Report.{Reports, report_number}
use Rattle.pile_report.proofs.Codes.{clear-exactly}
use Rattle.walk.specs.Taking.{Takes}
use Rattle.walk.specs.declared.Heard.{Heard}
use Rattle.walk.specs.declared.Said.{Said}
use Rattle.walk.specs.declared.Said.TheVariants.{Next, Ended}
use Rattle.walk.specs.declared.Walk.{Walk}
use Rattle.c_evidence.specs.Walking.{tb_took}

module _ (w : Walk) (h : Heard) (response pile : List ℕ) where
  pub nothing_said : (s : Result Said Refusal) → Takes w h response pile s → (tb_took s).outcome ≡ 0 ↔ ((tb_took s).code ≡ 0 → ⊥)
  nothing_said (Ok (Next v)) t = (λ e. absurd (omega (arith, e)), λ n. absurd (n refl))
  nothing_said (Ok (Ended v (Ok (i, j)))) t = (λ e. absurd (omega (arith, e)), λ n. absurd (n refl))
  nothing_said (Ok (Ended v (Err (why, k)))) t = by (eqb why.code 18)
    where
      by : (b : Bool) → ◌≡◌ {A = ℕ} (cond b 2 4) 0 ↔ (◌≡◌ {A = ℕ} 0 0 → ⊥)
      by true = (λ e. absurd (omega (arith, e)), λ n. absurd (n refl))
      by false = (λ e. absurd (omega (arith, e)), λ n. absurd (n refl))
  nothing_said (Err why) t = (λ e. t.1, λ n. refl)

-- A walk that has ended is told as consistent exactly where its pile has all that a report has but the pair: no pile
-- that was altered is.
pub consistent-told : (v : Window) (pile answers : List ℕ) (r : Result (ℕ × ℕ) (Refusal × ℕ)) → Reports pile answers r
    → (tb_took (Ok (Ended v r))).outcome ≡ 2 ↔ Clear pile answers
consistent-told v pile answers r s = (
  λ e. (clear-exactly pile answers r s).0 (from r e),
  λ c. to r ((clear-exactly pile answers r s).1 c),
)
  where
    from : (r : Result (ℕ × ℕ) (Refusal × ℕ)) → (tb_took (Ok (Ended v r))).outcome ≡ 2 → report_number r ≡ 18
    from (Ok (i, j)) e = absurd (omega (arith, e))
    from (Err (why, k)) e = by (eqb why.code 18) refl e
      where
        by : (b : Bool) → eqb why.code 18 ≡ b → ◌≡◌ {A = ℕ} (cond b 2 4) 2 → why.code ≡ 18
        by true q e = eqb-true why.code 18 q
        by false q e = absurd (omega (arith, e))

    to : (r : Result (ℕ × ℕ) (Refusal × ℕ)) → report_number r ≡ 18 → (tb_took (Ok (Ended v r))).outcome ≡ 2
    to (Ok (i, j)) e = absurd (omega (arith, e))
    to (Err (why, k)) e = simp (eq-eqb why.code 18 e)
