-- `wire_message::frame::first_fall` meets its contract. The scan has found no fall below k.
use native.Mathlib.Omega.{arith}
use Prim.Native.Nat.{◌+◌}
use borrow.Author.Tests.{le-leb, lt-leb}
use Rattle.laws.proofs.Least.{least_zero, least_more, least-found, least-end}
use Rattle.wire_message.specs.Frame.{word}
use borrow.Author.Rules.{rules}
use Rattle.wire_message.proofs.frame.first_fall.Goals as goal

pub loop-k-init : goal.loop-k-init
loop-k-init c = search (least_zero, rules)

pub returns-then-le32 : goal.returns-then-le32
returns-then-le32 c =
    let a = c.args in
    let l = c.loop-k in
    least-found _ l.k _ l.invariant
    (le-leb (word a.s.now a.at (l.k + 1)) (word a.s.now a.at l.k) (omega arith))
    c.loop-k-test.true

pub loop-k-preserved : goal.loop-k-preserved
loop-k-preserved c =
    let a = c.args in
    let l = c.loop-k in
    least_more _ l.k l.invariant
    (lt-leb (word a.s.now a.at (l.k + 1)) (word a.s.now a.at l.k) (omega arith))

pub returns : goal.returns
returns c = search (least-end, rules)
