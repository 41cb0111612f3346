-- `wire_message::values::value_start` meets its contract. A value starts within the message, or at its end.
use native.Mathlib.Omega.{arith}
use Rattle.wire_message.specs.Values.{value_start}
use Rattle.wire_message.proofs.Edges.{index_in, edge-within}
use borrow.Author.Rules.{rules}
use Rattle.wire_message.proofs.values.value_start.Goals as goal

pub edge_at-requires : goal.edge_at-requires
edge_at-requires c = (search rules, rw c.index_of-k.ensures (index_in _ _))

pub overflow_add-result : goal.overflow_add-result
overflow_add-result c =
    let found = c.index_of-k in
    omega (
      arith,
      edge-within _ c.requires found.result
          (rw found.ensures (index_in _ _)),
    )

pub returns : goal.returns
unfolding value_start
returns c =
    rw (c.edge_at.ensures, c.index_of-k.ensures, c.le32-n.ensures)
