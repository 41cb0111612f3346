-- `tree_build::build::path` meets its contract. Each way out has its law, and what is left in the buffer has one.
use mathlib.Core.Path.{refl}
use Rattle.tree_build.proofs.Writing.{path-puts}
use Rattle.tree_build.proofs.BuildingLaws.{path-none, path-short, path-written, path-left}
use borrow.Author.Rules.{rules}
use Rattle.tree_build.proofs.build.path.Goals as goal

pub returns-then-count-place : goal.returns-then-count-place
returns-then-count-place c =
    record { value = path-none c.count_of-count.ensures.0 _ _ c.if-count-place.true c.refuse.ensures; out_after = rw c.refuse.ensures }

pub returns-then-out-d : goal.returns-then-out-d
returns-then-out-d c =
    record {
      value = path-short c.count_of-count.ensures.0 c.depth-d.ensures.0 c.if-count-place.false c.if-out-d.true
          c.refuse-then-out-d.ensures;
      out_after = rw c.refuse-then-out-d.ensures;
    }

pub returns : goal.returns
returns c =
    let n = c.count_of-count.ensures.0 in
    let d = c.depth-d.ensures.0 in
    let puts = path-puts _ _ _ c.ascend.ensures.puts in record { value = path-written n d c.if-count-place.false refl c.if-out-d.false; out_after = path-left _ n d _ puts }
