-- wire_message/proofs/rules/versions_bad/Answers.antt
-- `wire_message::rules::versions_bad` meets its contract.
use native.Mathlib.Omega.{arith}
use Prim.Native.Nat.{◌%◌}
use mathlib.Core.Bool.{or-false}
use borrow.Author.Tests.{lt-ltb, le-ltb, eq-eqb, ne_eqb}
use lib.ListN.{length}
use Rattle.laws.specs.Any.{any}
use Rattle.laws.specs.Least.{somewhere}
use Rattle.wire_message.specs.Rules.{versions_bad}
use Rattle.wire_message.proofs.rules.versions_bad.Goals as goal
use Rattle.wire_message.proofs.rules.versions_bad.Goals.{then-v-lt4-via-then-v-lt4, then-v-lt4-via-else-v-lt4+then-v-gt128}
use Rattle.wire_message.proofs.rules.versions_bad.Goals.{then-v-lt4-via-else-v-lt4+else-v-gt128+then-v-ne0}

pub returns-then-v-lt4 : goal.returns-then-v-lt4
unfolding versions_bad any
returns-then-v-lt4 c =
    let n = length c.args.v.now in
    elim c.then-v-lt4.branch [
      | then-v-lt4-via-then-v-lt4 w ↦ rw (lt-ltb n 4 (omega arith))
      | then-v-lt4-via-else-v-lt4+then-v-gt128 w ↦ rw (le-ltb n 4 (omega arith), lt-ltb 128 n (omega arith))
      | then-v-lt4-via-else-v-lt4+else-v-gt128+then-v-ne0 w ↦
          rw (le-ltb n 4 (omega arith), le-ltb 128 n (omega arith), ne_eqb (n % 4) 0 (omega arith))
    ]

pub returns : goal.returns
unfolding versions_bad any somewhere
returns c =
    let n = length c.args.v.now in
    rw c.first_fall.ensures
    (simp (le-ltb n 4 (omega arith), le-ltb 128 n (omega arith), eq-eqb (n % 4) 0 (omega arith), or-false))
