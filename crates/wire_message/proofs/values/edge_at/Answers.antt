-- `wire_message::values::edge_at` meets its contract. The three cases of an edge.
use native.Mathlib.Omega.{arith}
use mathlib.Core.Path.{◌≡◌}
use Rattle.wire_message.proofs.Edges.{offset_word, edge-first, edge-inner, edge-last}
use Rattle.wire_message.specs.Frame.{count}
use Rattle.wire_message.proofs.values.edge_at.Goals as goal

pub returns-then-k-eq0 : goal.returns-then-k-eq0
returns-then-k-eq0 c = rw (c.if-k-eq0.true, edge-first c.args.m.now (omega arith))

pub returns-then-k-n : goal.returns-then-k-n
returns-then-k-n c =
    let a = c.args in
    omega (arith, edge-inner a.m.now a.k (omega arith), offset_word a.m.now a.k (omega arith))

pub returns-else-k-n : goal.returns-else-k-n
returns-else-k-n c =
    let m = c.args.m.now in
    let e : c.args.k ≡ count m = omega arith in
    rw e (omega (arith, edge-last m))
