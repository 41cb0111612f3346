-- wire_message/proofs/frame/length_bad/Answers.antt
-- `wire_message::frame::length_bad` meets its contract. The two tests of a length.
use native.Mathlib.Omega.{arith}
use mathlib.Core.Bool.{or-false}
use borrow.Author.Tests.{lt-ltb, le-ltb}
use lib.ListN.{length}
use Rattle.laws.specs.Any.{any}
use Rattle.wire_message.specs.Frame.{length_bad}
use Rattle.wire_message.proofs.frame.length_bad.Goals as goal

pub returns-then-m-lt4 : goal.returns-then-m-lt4
unfolding length_bad any
returns-then-m-lt4 c = rw (lt-ltb (length c.args.m.now) 4 (omega arith))

pub returns-else-m-lt4 : goal.returns-else-m-lt4
unfolding length_bad any
returns-else-m-lt4 c = simp (le-ltb (length c.args.m.now) 4 (omega arith), or-false)
