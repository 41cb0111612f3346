-- `check_response::downgrading::asked_above` meets its contract.
use native.Mathlib.Omega.{arith}
use borrow.Author.Tests.{lt-ltb, le-ltb}
use Rattle.check_response.specs.Downgrade.{asked_above}
use Rattle.check_response.proofs.downgrading.asked_above.Goals as goal

pub returns-then-chosen-v : goal.returns-then-chosen-v
unfolding asked_above
returns-then-chosen-v c =
    let a = c.args in
    rw (lt-ltb a.chosen a.v (omega arith), c.lacks.ensures)

pub returns-else-chosen-v : goal.returns-else-chosen-v
unfolding asked_above
returns-else-chosen-v c = let a = c.args in rw (le-ltb a.chosen a.v (omega arith))
