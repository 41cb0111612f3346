-- wire_message/proofs/frame/offsets_code/Answers.antt
-- `wire_message::frame::offsets_code` meets its contract. The place is that of the first wrong offset.
use Prim.Native.Nat.{ℕ, ◌*◌}
use mathlib.Core.Path.{ap, ◌∙◌}
use native.Mathlib.Omega.{arith}
use borrow.Author.Tests.{lt-ltb, le-ltb}
use Rattle.laws.specs.Least.{somewhere}
use Rattle.refusal.specs.Refusal.{refusal_at}
use Rattle.refusal.proofs.Passing.{test-alone, test-quiet-alone}
use Rattle.wire_message.specs.Frame.{count, first_bad_offset}
use Rattle.wire_message.proofs.frame.offsets_code.Goals as goal

pub returns-then-i-n : goal.returns-then-i-n
unfolding somewhere
returns-then-i-n c =
    let m = c.args.m.now in
    test-alone _ (c.refuse_at.ensures ∙ ap (λ (i : ℕ). refusal_at 4 (4 * i)) c.first_bad_offset-i.ensures) tt
    (lt-ltb (first_bad_offset m) (count m) (omega arith))

pub returns : goal.returns
unfolding somewhere
returns c =
    let m = c.args.m.now in
    test-quiet-alone _ (le-ltb (first_bad_offset m) (count m) (omega arith))
