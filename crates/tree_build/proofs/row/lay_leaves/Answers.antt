-- `tree_build::row::lay_leaves` meets its contract. The loop keeps: the first `i` places hold the leaves.
use Prim.Native.Nat.{ℕ, ◌≤◌, ◌<◌, ◌-◌}
use mathlib.Core.Path.{◌≡◌, refl, ◌∙◌}
use mathlib.Core.List.{[]}
use native.Mathlib.Omega.{arith}
use lib.ListN.{length, get_or, length-set}
use Rattle.laws.proofs.Fill.{fill-next}
use Rattle.tree.specs.Tree.{node_in}
use Rattle.tree_build.proofs.Filling.{level-padded}
use borrow.Author.Rules.{rules}
use Rattle.tree_build.proofs.row.lay_leaves.Goals as goal

pub loop-i-init : goal.loop-i-init
loop-i-init c = (refl, (λ j g. absurd (omega arith)))

pub loop-i-preserved : goal.loop-i-preserved
unfolding node_in
loop-i-preserved c =
    let l = c.loop-i in
    let leaves = c.args.leaves.now in (
      simp length-set l.invariant.0,
      fill-next (node_in leaves) [] l.row l.i _ (omega arith) l.invariant.1 c.copy32.ensures,
    )

pub returns : goal.returns
returns c =
    let l = c.loop-i in
    let padded = c.pad.ensures in
    (level-padded _ (λ j g. l.invariant.1 j (omega arith)) padded, padded.size ∙ l.invariant.0)
