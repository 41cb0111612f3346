-- `pile_signed::cutting::signed_run` meets its contract. The run by the judge is the run of the pile.
use Prim.Native.Nat.{◌+◌, ◌*◌, ◌≤◌}
use native.Mathlib.Omega.{arith}
use borrow.Author.Rules.{rules}
use lib.ListN.{length}
use Rattle.pile.specs.Layout.{RECORD}
use Rattle.pile_report.specs.Report.{judged}
use Rattle.pile_report.proofs.Runs.{judged-told}
use Rattle.pile_signed.specs.OwnAnswers.{own_answers}
use Rattle.pile_signed.proofs.Own.{own-good}
use Rattle.pile_signed.proofs.cutting.signed_run.Goals as goal

pub run_by-requires-clause-callable : goal.run_by-requires-clause-callable
run_by-requires-clause-callable c = λ k h.
    let there : RECORD * k + RECORD ≤ length c.args.pile.now = omega (arith, c.requires.exact) in
    search rules

pub returns : goal.returns
returns c =
    let p = c.args.pile.now in
    c.run_by.ensures (judged p (own_answers p))
    (λ k h r e. judged-told p (own_answers p) (own-good p c.requires) k h (search rules))
