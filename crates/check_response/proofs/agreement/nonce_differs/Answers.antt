-- `check_response::agreement::nonce_differs` meets its contract.
use Rattle.check_response.specs.Check.{nonce_differs}
use Rattle.check_response.proofs.agreement.nonce_differs.Goals as goal

pub returns : goal.returns
unfolding nonce_differs
returns c =
    rw (c.equal.ensures, c.value_of-2.ensures, c.value_of.ensures)
