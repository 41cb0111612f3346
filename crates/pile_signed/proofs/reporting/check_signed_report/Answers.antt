-- `pile_signed::reporting::check_signed_report` meets its contract. What is said of the arrays is said of the pile.
use mathlib.Core.Path.{sym, ◌∙◌}
use mathlib.Core.Bool.{true≢false}
use Prim.Native.Nat.{◌+◌, ◌*◌, ◌≤◌}
use native.Mathlib.Omega.{arith}
use borrow.Author.Rules.{rules}
use lib.ListN.{length}
use Rattle.pile.specs.Layout.{RECORD}
use Rattle.pile.proofs.Exactly.{whole-exactly}
use Rattle.pile.proofs.Wholes.{whole}
use Rattle.pile_report.specs.Report.{judged, code-15}
use Rattle.pile_report.proofs.Says.{good-says}
use Rattle.pile_report.proofs.Runs.{judged-told}
use Rattle.pile_signed.specs.OwnAnswers.{own_answers}
use Rattle.pile_signed.proofs.Own.{own-good}
use Rattle.pile_signed.proofs.reporting.check_signed_report.Goals as goal

pub returns-then-length_bad : goal.returns-then-length_bad
returns-then-length_bad c =
    let b = sym c.length_bad.ensures ∙ c.if-length_bad.true in
    rw c.refuse.ensures
    (code-15 (λ g. true≢false (sym b ∙ (whole-exactly c.args.pile.now).1 g.pile-whole)))

pub said_by-requires-clause-most : goal.said_by-requires-clause-most
said_by-requires-clause-most c =
    let w = whole c.args.pile.now (sym c.length_bad.ensures ∙ c.if-length_bad.false) in
    omega (arith, w.to)

pub said_by-requires-clause-callable : goal.said_by-requires-clause-callable
said_by-requires-clause-callable c = λ k h.
    let w = whole c.args.pile.now (sym c.length_bad.ensures ∙ c.if-length_bad.false) in
    let there : RECORD * k + RECORD ≤ length c.args.pile.now = omega (arith, w.exact) in
    search rules

pub returns : goal.returns
returns c =
    let p = c.args.pile.now in
    let a = own_answers p in
    let good = own-good p (whole p (sym c.length_bad.ensures ∙ c.if-length_bad.false)) in
    good-says p a good c.said_by.result
    (c.said_by.ensures (judged p a) (λ k h r e. judged-told p a good k h (search rules)))
