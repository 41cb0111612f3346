-- wire_message/proofs/rules/siblings_bad/Answers.antt
-- `wire_message::rules::siblings_bad` meets its contract.
use native.Mathlib.Omega.{arith}
use mathlib.Core.Bool.{or-false}
use borrow.Author.Tests.{lt-ltb, le-ltb}
use lib.ListN.{length}
use Rattle.laws.specs.Any.{any}
use Rattle.wire_message.specs.Rules.{siblings_bad}
use Rattle.wire_message.proofs.rules.siblings_bad.Goals as goal

pub returns-then-v-gt1024 : goal.returns-then-v-gt1024
unfolding siblings_bad any
returns-then-v-gt1024 c = rw (lt-ltb 1024 (length c.args.v.now) (omega arith))

pub returns-else-v-gt1024 : goal.returns-else-v-gt1024
unfolding siblings_bad any
returns-else-v-gt1024 c = simp (le-ltb 1024 (length c.args.v.now) (omega arith), or-false)
