-- `tree_build::row::parents` meets its contract. The loop keeps: what is promised, up to node `i`.
use Prim.Native.Nat.{◌≤◌, ◌-◌}
use mathlib.Core.Path.{◌≡◌}
use lib.ListN.{length}
use native.Mathlib.Omega.{arith}
use Rattle.tree_build.specs.Level.{Halved}
use Rattle.tree_build.proofs.Filling.{halved-first, halved-next}
use borrow.Author.Rules.{rules}
use Rattle.tree_build.proofs.row.parents.Goals as goal

pub loop-i-init : goal.loop-i-init
loop-i-init c = halved-first _ _

pub loop-i-preserved : goal.loop-i-preserved
loop-i-preserved c =
    let l = c.loop-i in
    halved-next _ l.invariant (omega (arith, l.invariant.size)) c.parent.ensures

pub returns : goal.returns
returns c =
    let l = c.loop-i in
    let all : l.i ≡ c.args.n = omega arith in
    rw all at l.invariant
