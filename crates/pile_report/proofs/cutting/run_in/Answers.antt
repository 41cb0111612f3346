-- `pile_report::cutting::run_in` meets its contract. The run by the judge is the run of the pile.
use Prim.Native.Nat.{◌+◌, ◌*◌, ◌≤◌}
use native.Mathlib.Omega.{arith}
use borrow.Author.Rules.{rules}
use lib.ListN.{length}
use Rattle.pile.specs.Layout.{RECORD}
use Rattle.pile_report.specs.Report.{judged}
use Rattle.pile_report.proofs.Runs.{judged-told}
use Rattle.pile_report.proofs.cutting.run_in.Goals as goal

pub run_by-requires-clause-callable : goal.run_by-requires-clause-callable
run_by-requires-clause-callable c = λ k h.
    let there : RECORD * k + RECORD ≤ length c.args.pile.now = omega (arith, c.requires.pile-whole.exact) in
    let answered : 2 * k + 2 ≤ length c.args.answers.now = omega (arith, c.requires.two) in
    search rules

pub returns : goal.returns
returns c =
    let p = c.args.pile.now in
    let a = c.args.answers.now in
    c.run_by.ensures (judged p a) (λ k h r e. judged-told p a c.requires k h (search rules))
