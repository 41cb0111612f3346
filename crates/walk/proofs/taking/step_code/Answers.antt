-- `walk::taking::step_code` meets its contract. Each return is the first refusal of the row.
use mathlib.Core.Path.{◌≡◌}
use native.Mathlib.Omega.{arith}
use Rattle.laws.proofs.First.{chain}
use Rattle.refusal.specs.Refusal.{passed}
use Rattle.walk.specs.Taking.{step_code}
use Rattle.walk.proofs.Accepting.{going, in-time}
use Rattle.walk.proofs.Passed.{refused-as, passed-as}
use Rattle.walk.proofs.taking.step_code.Goals as goal

pub returns-then-over : goal.returns-then-over
unfolding step_code
returns-then-over c =
    let told : c.refuse.result ≡ step_code c.args.w c.args.h c.args.room = search chain depth 9 in
    refused-as _ c.refuse.ensures tt told

pub overflow_mul-w : goal.overflow_mul-w
overflow_mul-w c =
    let g = going _ c.over.ensures c.if-over.false in omega (arith, g.to)

pub returns-then-room-w : goal.returns-then-room-w
unfolding step_code
returns-then-room-w c =
    let told : c.refuse-then-room-w.result ≡ step_code c.args.w c.args.h c.args.room = search chain depth 9 in
    refused-as _ c.refuse-then-room-w.ensures tt told

pub returns-then-clock_wrong : goal.returns-then-clock_wrong
unfolding step_code
returns-then-clock_wrong c =
    let told : c.refuse-then-clock_wrong.result ≡ step_code c.args.w c.args.h c.args.room = search chain depth 9 in
    refused-as _ c.refuse-then-clock_wrong.ensures tt told

pub overflow_sub-h : goal.overflow_sub-h
overflow_sub-h c = (in-time _ _ c.clock_wrong.ensures c.if-clock_wrong.false).0

pub returns-then-w-h : goal.returns-then-w-h
unfolding step_code
returns-then-w-h c =
    let told : c.refuse-then-w-h.result ≡ step_code c.args.w c.args.h c.args.room = search chain depth 9 in
    refused-as _ c.refuse-then-w-h.ensures tt told

pub returns : goal.returns
unfolding step_code
returns c =
    let told : passed ≡ step_code c.args.w c.args.h c.args.room = search chain depth 9 in passed-as _ told
