-- wire_message/proofs/frame/count_bad/Answers.antt
-- `wire_message::frame::count_bad` meets its contract. The three tests of N.
use native.Mathlib.Omega.{arith}
use mathlib.Core.Bool.{or-false}
use borrow.Author.Tests.{lt-ltb, le-ltb, eq-eqb, ne_eqb}
use Rattle.laws.specs.Any.{any}
use Rattle.wire_message.specs.Frame.{count, count_bad}
use Rattle.wire_message.proofs.frame.count_bad.Goals as goal
use Rattle.wire_message.proofs.frame.count_bad.Goals.{then-n-eq0, else-n-eq0}

pub returns-then-n-gt32 : goal.returns-then-n-gt32
unfolding count_bad any
returns-then-n-gt32 c =
    let n = count c.args.m.now in
    elim c.if-n-eq0.branch [
      | then-n-eq0 w ↦ rw (w.t-5-is, c.le32-n.ensures, eq-eqb n 0 (omega arith))
      | else-n-eq0 w ↦ rw (w.t-5-is, c.le32-n.ensures, ne_eqb n 0 (omega arith), lt-ltb 32 n (omega arith))
    ]

pub returns-else-n-gt32 : goal.returns-else-n-gt32
unfolding count_bad any
returns-else-n-gt32 c =
    let n = count c.args.m.now in
    rw c.le32-n.ensures (simp (ne_eqb n 0 (omega arith), le-ltb 32 n (omega arith), or-false))
