-- A response that passes the response check has both answers yes.
use Prim.Native.Nat.{ℕ}
use mathlib.Core.Path.{◌≡◌}
use mathlib.Core.Bool.{Bool, true}
use mathlib.Core.List.{List}
use borrow.Author.Tests.{not-false}
use Rattle.laws.proofs.First.{row-quiet, test-quiet}
use Rattle.refusal.specs.Refusal.{refusals}
use Rattle.check_response.specs.Check.{answers_code, agreement_code, check_code}

module _ (q p : List ℕ) (d s : Bool) (z : (check_code q p d s).code ≡ 0) where
  pub both_yes : (d ≡ true) × (s ≡ true)
  unfolding check_code agreement_code answers_code
  both_yes =
      let a = row-quiet refusals _ _ (row-quiet refusals _ _ (row-quiet refusals _ _ z).1).1 in
      let b = row-quiet refusals _ _ (row-quiet refusals _ _ (row-quiet refusals _ _ a.0).1).1 in
      let c = row-quiet refusals _ _ (row-quiet refusals _ _ (row-quiet refusals _ _ b.1).1).1 in
      let e = row-quiet refusals _ _ c.0 in (
        not-false _ (test-quiet refusals _ _ tt e.0),
        not-false _ (test-quiet refusals _ _ tt (row-quiet refusals _ _ e.1).0),
      )

  pub check-yes : (check_code q p true true).code ≡ 0
  check-yes = rw (both_yes.0, both_yes.1) at z
