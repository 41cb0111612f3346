-- `tree_build::size::held_of` meets its contract. Its tests are the definition's.
use mathlib.Core.Path.{sym, ap, ◌∙◌}
use Prim.Native.Nat.{ℕ, ◌*◌}
use native.Mathlib.Omega.{arith}
use borrow.Author.Tests.{le-leb, lt-leb}
use Rattle.tree_build.specs.AllRows.{nodes_of}
use Rattle.tree_build.specs.Leaves.{held_of}
use Rattle.tree_build.proofs.Leaves.{held_none}
use borrow.Author.Rules.{rules}
use Rattle.tree_build.proofs.size.held_of.Goals as goal

pub returns-then-count-eq0 : goal.returns-then-count-eq0
returns-then-count-eq0 c =
    (sym (ap (held_of c.args.size) c.if-count-eq0.true ∙ held_none c.args.size), omega arith)

pub returns-then-count-gt-MOST : goal.returns-then-count-gt-MOST
unfolding held_of
returns-then-count-gt-MOST c = (simp (lt-leb _ _ c.if-count-gt-MOST.true), omega arith)

pub returns-then-size-bytes : goal.returns-then-size-bytes
unfolding held_of
returns-then-size-bytes c =
    let d = c.depth.ensures.0 in
    let b = c.bytes.ensures ∙ ap (λ (x : ℕ). 32 * nodes_of x) d in
    (simp (le-leb _ _ c.if-count-gt-MOST.false, lt-leb _ _ (rw b at c.if-size-bytes.true)), omega arith)

pub returns : goal.returns
unfolding held_of
returns c =
    let d = c.depth.ensures.0 in
    let b = c.bytes.ensures ∙ ap (λ (x : ℕ). 32 * nodes_of x) d in
    (simp (le-leb _ _ c.if-count-gt-MOST.false, le-leb _ _ (rw b at c.if-size-bytes.false)), omega arith)
