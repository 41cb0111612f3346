-- `tree_build::build::rows` meets its contract. Each way out has its law, and what is left in the buffer has one.
use Prim.Native.Nat.{◌*◌, ◌≤◌}
use native.Mathlib.Omega.{arith}
use lib.Pow.{pow_pos}
use Rattle.tree_build.specs.AllRows.{nodes_of}
use Rattle.tree_build.proofs.BuildingLaws.{rows_none, rows_short, rows_written, rows_left_lem}
use Rattle.tree_build.proofs.AllRows.{rows-over}
use Rattle.tree_build.proofs.Leaves.{count-whole}
use borrow.Author.Rules.{rules}
use Rattle.tree_build.proofs.build.rows.Goals as goal

pub returns-then-count-eq0 : goal.returns-then-count-eq0
returns-then-count-eq0 c =
    record { value = rows_none c.count_of-count.ensures.0 _ c.if-count-eq0.true c.refuse.ensures; out_after = rw c.refuse.ensures }

pub returns-then-out-size : goal.returns-then-out-size
returns-then-out-size c =
    record {
      value = rows_short c.count_of-count.ensures.0 c.depth-d.ensures.0 c.if-count-eq0.false
          c.bytes-size.ensures c.if-out-size.true c.refuse-then-out-size.ensures;
      out_after = rw c.refuse-then-out-size.ensures;
    }

pub put-requires : goal.put-requires
put-requires c =
    let whole = count-whole _ c.count_of-count.ensures.0 c.if-count-eq0.false in
    let holds = c.depth-d.ensures.2 in
    omega (arith, whole, holds, c.bytes-size.ensures, pow_pos c.depth-d.result)

pub returns : goal.returns
returns c =
    let n = c.count_of-count.ensures.0 in
    let d = c.depth-d.ensures.0 in
    let size = c.bytes-size.ensures in
    let whole = count-whole _ n c.if-count-eq0.false in
    let less : 32 * c.count_of-count.result ≤ 32 * nodes_of c.depth-d.result = omega
    (arith, c.depth-d.ensures.2, pow_pos c.depth-d.result) in
    let puts = rows-over _ _ _ c.put.ensures whole less (omega arith)
    c.fill_rows.ensures in record { value = rows_written n d c.if-count-eq0.false size (omega arith); out_after = rows_left_lem _ n d puts }
