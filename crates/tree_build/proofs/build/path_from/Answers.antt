-- `tree_build::build::path_from` meets its contract. Each way out has its law, and what is left in the buffer has one.
use mathlib.Core.Path.{refl}
use native.Mathlib.Omega.{arith}
use Rattle.tree_build.proofs.Leaves.{held_rows}
use Rattle.tree_build.proofs.BuildingLaws.{path-none, path-short, path-written, from-left}
use borrow.Author.Rules.{rules}
use Rattle.tree_build.proofs.build.path_from.Goals as goal

pub returns-then-held-place : goal.returns-then-held-place
returns-then-held-place c =
    record { value = path-none c.held_of-held.ensures.0 _ _ c.if-held-place.true c.refuse.ensures; out_after = rw c.refuse.ensures }

pub returns-then-out-d : goal.returns-then-out-d
returns-then-out-d c =
    record {
      value = path-short c.held_of-held.ensures.0 c.depth-d.ensures.0 c.if-held-place.false c.if-out-d.true
          c.refuse-then-out-d.ensures;
      out_after = rw c.refuse-then-out-d.ensures;
    }

pub read_path-requires : goal.read_path-requires
read_path-requires c =
    let d = c.depth-d.ensures in
    record {
      deep = d.1;
      held = held_rows _ _ c.held_of-held.ensures.0 c.if-held-place.false d.0;
      inside = omega (arith, c.if-held-place.false, d.2);
      enough = c.if-out-d.false;
    }

pub returns : goal.returns
returns c =
    let n = c.held_of-held.ensures.0 in
    let d = c.depth-d.ensures.0 in record { value = path-written n d c.if-held-place.false refl c.if-out-d.false; out_after = from-left _ _ n c.if-held-place.false d c.read_path.ensures }
