-- `server_batch::fitting::count_long` meets its contract. The loop keeps: `k` of the first `i` packets are answered.
use mathlib.Core.Path.{◌≡◌, refl, ap, ◌∙◌}
use Prim.Native.Nat.{◌+◌}
use native.Mathlib.Omega.{arith}
use lib.ListN.{length}
use mir.Val.{bool_byte}
use Rattle.server_batch.specs.Picking.{how_many}
use Rattle.server_batch.specs.Steps.{stay_at}
use Rattle.server_batch.proofs.Meant.{mark-is}
use Rattle.server_batch.proofs.Picked.{many-of, more-mark}
use Rattle.server_batch.proofs.fitting.count_long.Goals as goal

pub loop-i-init : goal.loop-i-init
unfolding how_many
loop-i-init c = refl

pub loop-i-preserved : goal.loop-i-preserved
unfolding stay_at
loop-i-preserved c =
    let a = c.args in
    let one = c.from-k.ensures ∙ ap bool_byte c.stays.ensures ∙ mark-is _ in
    more-mark (stay_at a.marks.now a.lengths.now a.size) c.loop-i.i c.loop-i.invariant one

pub overflow_add-k : goal.overflow_add-k
overflow_add-k c =
    omega (arith, many-of _ (c.loop-i.i + 1) (loop-i-preserved c))

pub returns : goal.returns
returns c =
    let l = c.loop-i in
    let all : l.i ≡ length c.args.lengths.now = omega arith in
    l.invariant ∙ ap (how_many _) all
