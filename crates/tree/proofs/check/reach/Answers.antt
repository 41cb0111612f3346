-- `tree::check::reach` meets its contract. The loop keeps: what is left of the siblings leads from `h` where all lead
-- from `leaf`.
use Prim.Native.Nat.{◌<◌, ◌/◌}
use mathlib.Core.Path.{refl}
use mathlib.Core.List.{[]}
use native.Mathlib.Omega.{arith}
use lib.ListN.{length}
use Rattle.tree.specs.Tree.{nodes_in}
use Rattle.tree.specs.PathCheck.{reached}
use Rattle.tree.proofs.Climbs.{climb-turn, climb-done}
use Rattle.tree.proofs.Nodes.{nodes-length, chunks-at}
use Rattle.tree.proofs.check.reach.Goals as goal

pub loop-sibling-init : goal.loop-sibling-init
loop-sibling-init c = refl

pub loop-sibling-preserved : goal.loop-sibling-preserved
loop-sibling-preserved c =
    let l = c.loop-sibling in
    let path = c.args.path.now in
    let n = length path / 32 in
    let g : l.sibling-index < n = omega (arith, c.as_chunks.ensures.front_len) in
    climb-turn l.bits l.h _ _ _ (nodes_in n path) l.sibling-index (rw nodes-length g)
    (chunks-at n path l.sibling-index _ [] _ c.as_chunks.ensures.front g) c.step-next.ensures l.invariant

pub returns : goal.returns
unfolding reached
returns c =
    let l = c.loop-sibling in
    let path = c.args.path.now in
    climb-done l.bits l.h _ (nodes_in (length path / 32) path) l.sibling-index
    (rw nodes-length (omega (arith, c.as_chunks.ensures.front_len))) l.invariant
