-- `check_signatures::verifying::signature_code` meets its contract. Each return is the first refusal of the row.
use mathlib.Core.Path.{ap}
use mathlib.Core.Bool.{not}
use Rattle.refusal.proofs.Passing.{test-on, test-refuses, none-left}
use Rattle.check_response.specs.Check.{answers_code}
use borrow.Author.Rules.{rules}
use Rattle.check_signatures.proofs.verifying.signature_code.Goals as goal

pub returns-then-not-delegation_verifies : goal.returns-then-not-delegation_verifies
unfolding answers_code
returns-then-not-delegation_verifies c =
    test-refuses _ _ c.refuse.ensures tt (ap not c.delegation_verifies.ensures)
    (ap not c.if-not-delegation_verifies.true)

pub returns-then-not-response_verifies : goal.returns-then-not-response_verifies
unfolding answers_code
returns-then-not-response_verifies c =
    test-on _ _ (ap not c.delegation_verifies.ensures) (ap not c.if-not-delegation_verifies.false)
    (test-refuses _ _ c.refuse-then-not-response_verifies.ensures tt (ap not c.response_verifies.ensures)
    (ap not c.if-not-response_verifies.true))

pub returns : goal.returns
unfolding answers_code
returns c =
    let verifies = ap not c.if-not-delegation_verifies.false in
    test-on _ _ (ap not c.delegation_verifies.ensures) verifies
    (test-on _ _ (ap not c.response_verifies.ensures) (ap not c.if-not-response_verifies.false) none-left)
