-- check_reuse/proofs/same_delegation/Answers.antt
-- `check_reuse::same_delegation` meets its contract.
use native.Mathlib.Omega.{arith}
use borrow.Author.Tests.{eq-eqb, ne_eqb}
use Rattle.check_reuse.specs.Reuse.{same_delegation}
use Rattle.check_reuse.proofs.same_delegation.Goals as goal
use Rattle.check_reuse.proofs.same_delegation.Goals.{then-first_code-eq0, else-first_code-eq0}

pub returns-then-second_code-eq0 : goal.returns-then-second_code-eq0
unfolding same_delegation
returns-then-second_code-eq0 c =
    rw (eq-eqb c.args.first_code 0 (omega arith), eq-eqb c.args.second_code 0 (omega arith)) c.same_dele.ensures

pub returns-else-second_code-eq0 : goal.returns-else-second_code-eq0
unfolding same_delegation
returns-else-second_code-eq0 c =
    elim c.if-first_code-eq0.branch [
      | then-first_code-eq0 w ↦
          rw (w.t-6-is, eq-eqb c.args.first_code 0 (omega arith), ne_eqb c.args.second_code 0 (omega arith))
      | else-first_code-eq0 w ↦ rw (w.t-6-is, ne_eqb c.args.first_code 0 (omega arith))
    ]
