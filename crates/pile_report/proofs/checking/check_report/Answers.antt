-- `pile_report::checking::check_report` meets its contract. What is said of the arrays is said of the pile.
use Prim.Native.Nat.{◌+◌, ◌*◌, ◌≤◌}
use native.Mathlib.Omega.{arith}
use borrow.Author.Rules.{rules}
use lib.ListN.{length}
use Rattle.pile.specs.Layout.{RECORD}
use Rattle.pile_report.specs.Report.{judged}
use Rattle.refusal.proofs.Passing.{error-is, error-refuses}
use Rattle.pile_report.proofs.Says.{good-says, pile-bad, good_of}
use Rattle.pile_report.proofs.Runs.{judged-told}
use Rattle.pile_report.proofs.checking.check_report.Goals as goal

pub returns-in-Err : goal.returns-in-Err
returns-in-Err c = pile-bad _ _ (error-is _ c.pile_code.ensures c.in-Err.is) (error-refuses _ c.pile_code.ensures c.in-Err.is)

pub said_by-requires-clause-most : goal.said_by-requires-clause-most
said_by-requires-clause-most c =
    (good_of c.args.pile.now c.args.answers.now c.pile_code.ensures c.in-Ok.is).pile-whole.to

pub said_by-requires-clause-callable : goal.said_by-requires-clause-callable
said_by-requires-clause-callable c = λ k h.
    let p = c.args.pile.now in
    let a = c.args.answers.now in
    let good = good_of p a c.pile_code.ensures c.in-Ok.is in
    let there : RECORD * k + RECORD ≤ length p = omega (arith, good.pile-whole.exact) in
    let answered : 2 * k + 2 ≤ length a = omega (arith, good.two) in
    search rules

pub returns-in-Ok : goal.returns-in-Ok
returns-in-Ok c =
    let p = c.args.pile.now in
    let a = c.args.answers.now in
    let good = good_of p a c.pile_code.ensures c.in-Ok.is in
    good-says p a good c.said_by.result
    (c.said_by.ensures (judged p a) (λ k h r e. judged-told p a good k h (search rules)))
