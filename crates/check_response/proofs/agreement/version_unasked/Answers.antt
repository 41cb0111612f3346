-- `check_response::agreement::version_unasked` meets its contract.
use Rattle.check_response.specs.Check.{version_unasked}
use Rattle.check_response.proofs.agreement.version_unasked.Goals as goal

pub returns : goal.returns
unfolding version_unasked
returns c = rw (c.lacks_version.ensures, c.srep_version.ensures)
