-- check_reuse/proofs/may_use/Answers.antt
-- `check_reuse::may_use` meets its contract.
use native.Mathlib.Omega.{arith}
use borrow.Author.Tests.{eq-eqb, ne_eqb}
use Rattle.check_reuse.specs.Reuse.{may_use}
use Rattle.check_reuse.proofs.may_use.Goals as goal

pub returns-then-code-eq0 : goal.returns-then-code-eq0
unfolding may_use
returns-then-code-eq0 c = rw (eq-eqb c.args.code 0 (omega arith))

pub returns-else-code-eq0 : goal.returns-else-code-eq0
unfolding may_use
returns-else-code-eq0 c = rw (ne_eqb c.args.code 0 (omega arith))
