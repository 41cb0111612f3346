-- `tree_build::size::rows_length` meets its contract.
use mathlib.Core.Path.{sym, ap, ◌∙◌}
use Prim.Native.Nat.{ℕ, ◌*◌}
use borrow.Author.Tests.{eq-eqb, ne_eqb}
use Rattle.tree.specs.Tree.{depth_of}
use Rattle.tree_build.specs.AllRows.{nodes_of}
use Rattle.tree_build.specs.Leaves.{count_of, rows_length}
use borrow.Author.Rules.{rules}
use Rattle.tree_build.proofs.size.rows_length.Goals as goal

pub returns-then-count-eq0 : goal.returns-then-count-eq0
unfolding rows_length
returns-then-count-eq0 c =
    let size = c.args.size in
    rw (eq-eqb (count_of size) 0 (sym c.count_of-count.ensures.0 ∙ c.if-count-eq0.true))

pub returns : goal.returns
unfolding rows_length
returns c =
    let size = c.args.size in
    let depth = c.depth.ensures.0 ∙ ap depth_of c.count_of-count.ensures.0 in
    rw (ne_eqb (count_of size) 0 (λ z. c.if-count-eq0.false (c.count_of-count.ensures.0 ∙ z)))
    (c.bytes.ensures ∙ ap (λ (d : ℕ). 32 * nodes_of d) depth)
