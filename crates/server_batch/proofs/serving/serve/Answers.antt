-- `server_batch::serving::serve` meets its contract.
use Prim.Native.Nat.{◌*◌, ◌≤◌}
use native.Mathlib.Omega.{arith}
use lib.ListN.{length}
use Rattle.laws.proofs.Written.{puts-length}
use Rattle.tree_build.specs.AllRows.{nodes_of}
use Rattle.server_batch.proofs.serving.serve.Goals as goal

pub fill_rows-requires : goal.fill_rows-requires
fill_rows-requires c =
    record {
      few = c.depth-d.ensures.2;
      deep = c.depth-d.ensures.1;
      held = rw c.depth-d.ensures.0 c.requires.held;
    }

pub say-said-requires : goal.say-said-requires
say-said-requires c =
    let held : 32 * nodes_of c.depth-d.result ≤ length c.args.rows.now = rw c.depth-d.ensures.0 c.requires.held in
    (c.depth-d.ensures.1, omega (arith, held, puts-length c.fill_rows.ensures))

pub answer_each-requires : goal.answer_each-requires
answer_each-requires c =
    let held : 32 * nodes_of c.depth-d.result ≤ length c.args.rows.now = rw c.depth-d.ensures.0 c.requires.held in
    let can = c.requires in (
      record {
        whole = c.say-said.ensures.1;
        deep = c.depth-d.ensures.1;
        held = omega (arith, held, puts-length c.fill_rows.ensures);
        longest = rw c.depth-d.ensures.0 can.longest;
        enough = can.enough;
        slots = can.slots;
      },
      omega (arith, can.all, c.depth-d.ensures.2),
    )

pub returns : goal.returns
returns c =
    let deep = c.depth-d.ensures.0 in
    record {
      whole = rw (c.say-said.ensures.0, deep) at c.say-said.ensures.1;
      laid = rw deep at c.fill_rows.ensures;
      answered = rw (c.say-said.ensures.0, deep) at c.answer_each.ensures;
    }
