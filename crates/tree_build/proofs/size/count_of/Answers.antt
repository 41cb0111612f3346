-- `tree_build::size::count_of` meets its contract. Its tests are the definition's.
use native.Mathlib.Omega.{arith}
use borrow.Author.Tests.{eq-eqb, ne_eqb, le-leb, lt-leb}
use Rattle.tree_build.specs.Leaves.{count_of}
use Rattle.tree_build.proofs.size.count_of.Goals as goal

pub returns-then-size-ne0 : goal.returns-then-size-ne0
unfolding count_of
returns-then-size-ne0 c =
    (simp (ne_eqb _ _ c.if-size-ne0.true), omega arith, omega arith)

pub returns-then-size-gt-MOST : goal.returns-then-size-gt-MOST
unfolding count_of
returns-then-size-gt-MOST c =
    (simp (eq-eqb _ _ c.if-size-ne0.false, lt-leb _ _ c.if-size-gt-MOST.true), omega arith, omega arith)

pub returns : goal.returns
unfolding count_of
returns c =
    (simp (eq-eqb _ _ c.if-size-ne0.false, le-leb _ _ c.if-size-gt-MOST.false), omega arith, omega arith)
