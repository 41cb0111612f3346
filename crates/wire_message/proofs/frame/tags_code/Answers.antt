-- wire_message/proofs/frame/tags_code/Answers.antt
-- `wire_message::frame::tags_code` meets its contract. The place is that of the first tag that does not rise.
use Prim.Native.Nat.{ℕ, ◌+◌, ◌-◌, ◌*◌}
use mathlib.Core.Path.{ap, ap₂, ◌∙◌}
use native.Mathlib.Omega.{arith}
use borrow.Author.Tests.{lt-ltb, le-ltb}
use Rattle.laws.specs.Least.{least, somewhere}
use Rattle.refusal.specs.Refusal.{refusal_at}
use Rattle.refusal.proofs.Passing.{test-alone, test-quiet-alone}
use Rattle.wire_message.specs.Frame.{not_above, count, first_low_tag}
use Rattle.wire_message.proofs.frame.tags_code.Goals as goal

pub returns-then-k-n : goal.returns-then-k-n
unfolding somewhere
returns-then-k-n c =
    let m = c.args.m.now in
    let e = ap (λ (k : ℕ). least (not_above m (4 * k)) (k - 1)) c.le32-n.ensures in
    test-alone _
    (c.refuse_at.ensures
    ∙ ap₂ (λ (n k : ℕ). refusal_at 5 (4 * n + 4 * (k + 1))) c.le32-n.ensures (c.first_fall-k.ensures ∙ e)) tt
    (lt-ltb (first_low_tag m) (count m - 1) (omega arith))

pub returns : goal.returns
unfolding somewhere
returns c =
    let m = c.args.m.now in
    let e = ap (λ (k : ℕ). least (not_above m (4 * k)) (k - 1)) c.le32-n.ensures in
    test-quiet-alone _ (le-ltb (first_low_tag m) (count m - 1) (omega arith))
