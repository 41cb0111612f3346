-- `check_response::agreement::answers_code` meets its contract. Each return is the first refusal of the row.
use mathlib.Core.Path.{refl, ap}
use mathlib.Core.Bool.{not}
use Rattle.refusal.proofs.Passing.{test-on, test-refuses, none-left}
use Rattle.check_response.specs.Check.{answers_code}
use Rattle.check_response.proofs.agreement.answers_code.Goals as goal

pub returns-then-not-delegation : goal.returns-then-not-delegation
unfolding answers_code
returns-then-not-delegation c = test-refuses _ _ c.refuse.ensures tt refl (ap not c.if-not-delegation.true)

pub returns-then-not-signature : goal.returns-then-not-signature
unfolding answers_code
returns-then-not-signature c =
    test-on _ _ refl (ap not c.if-not-delegation.false)
    (test-refuses _ _ c.refuse-then-not-signature.ensures tt refl (ap not c.if-not-signature.true))

pub returns : goal.returns
unfolding answers_code
returns c = test-on _ _ refl (ap not c.if-not-delegation.false) (test-on _ _ refl (ap not c.if-not-signature.false) none-left)
