-- `server_batch::laying::put_leaves` meets its contract. The loop keeps: what is promised, of the first `i` packets.
use mathlib.Core.Path.{◌≡◌}
use native.Mathlib.Omega.{arith}
use lib.ListN.{length}
use Rattle.server_batch.proofs.Laid.{leaves-first, leaves-length, leaves-room, leaves-next}
use Rattle.server_batch.proofs.laying.put_leaves.Goals as goal

pub loop-i-init : goal.loop-i-init
loop-i-init c = leaves-first _ _ _

pub put_leaf-k-requires : goal.put_leaf-k-requires
put_leaf-k-requires c =
    let room = c.requires in
    (omega arith, leaves-room _ _ _ c.loop-i.i c.loop-i.invariant (omega arith) (omega arith))

pub loop-i-preserved : goal.loop-i-preserved
loop-i-preserved c =
    leaves-next _ _ _ c.loop-i.i c.loop-i.invariant c.put_leaf-k.ensures

pub returns : goal.returns
returns c =
    let all : c.loop-i.i ≡ length c.args.chosen.packets.lengths.now = omega arith in
    rw all at c.loop-i.invariant

pub shape_of-rows : goal.shape_of-rows
shape_of-rows c = leaves-length _ _ _ _ c.loop-i.invariant
