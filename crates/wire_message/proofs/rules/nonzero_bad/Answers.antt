-- wire_message/proofs/rules/nonzero_bad/Answers.antt
-- `wire_message::rules::nonzero_bad` meets its contract.
use native.Mathlib.Omega.{arith}
use mathlib.Core.Bool.{or-false}
use borrow.Author.Tests.{eq-eqb, ne_eqb}
use lib.ListN.{length}
use Rattle.laws.specs.Any.{any}
use Rattle.wire_message.specs.Rules.{nonzero_bad}
use Rattle.wire_message.proofs.rules.nonzero_bad.Goals as goal

pub returns-then-v-ne4 : goal.returns-then-v-ne4
unfolding nonzero_bad any
returns-then-v-ne4 c = rw (ne_eqb (length c.args.v.now) 4 (omega arith))

pub returns-else-v-ne4 : goal.returns-else-v-ne4
unfolding nonzero_bad any
returns-else-v-ne4 c = rw c.le32.ensures (simp (eq-eqb (length c.args.v.now) 4 (omega arith), or-false))
