-- `server_batch::batch::answer_all` meets its contract. What is known on the way stands in Finished, and what is left
-- in Ended.
use mathlib.Core.Path.{sym, ap, ◌∙◌}
use Prim.Native.Nat.{ℕ, ◌+◌, ◌*◌}
use native.Mathlib.Omega.{arith}
use lib.ListN.{length}
use lib.Pow.{pow_pos}
use Rattle.laws.proofs.Written.{puts-length}
use Rattle.tree.specs.Tree.{depth_of}
use Rattle.tree_build.proofs.Depths.{depth-holds}
use Rattle.server_batch.specs.Batch.{batch}
use Rattle.server_batch.proofs.Ended.{ended-none, ended_some}
use Rattle.server_batch.proofs.Depths.{depth-fits}
use Rattle.server_batch.proofs.Finished.{held, same, long, counted, longest-is, can-serve, some-short}
use Rattle.server_batch.proofs.batch.answer_all.Goals as goal

pub shortest-least-requires : goal.shortest-least-requires
shortest-least-requires c =
    let a = c.args in
    let s = c.requires in
    let b = batch a.packets.slots.now a.packets.slot a.packets.lengths.now a.service.now.srv in (
      s.0,
      s.1,
      long b _ _ _ s.1 s.2 c.mark.ensures,
      omega (arith, depth-fits _ _ s.2.of-rows (omega arith)),
    )

pub invariant_of-chosen : goal.invariant_of-chosen
invariant_of-chosen c =
    let a = c.args in
    let s = c.requires in
    let b = batch a.packets.slots.now a.packets.slot a.packets.lengths.now a.service.now.srv in
    record { held = held b _ _ _ s.1 s.2 c.mark.ensures }

pub put_leaves-k-requires : goal.put_leaves-k-requires
put_leaves-k-requires c =
    let a = c.args in
    let s = c.requires in
    let b = batch a.packets.slots.now a.packets.slot a.packets.lengths.now a.service.now.srv in
    let n = length a.packets.lengths.now in
    omega (arith, depth-holds n s.0 s.1, s.2.of-rows, pow_pos (depth_of n))

pub returns-then-k-eq0 : goal.returns-then-k-eq0
returns-then-k-eq0 c =
    let a = c.args in
    let s = c.requires in
    let b = batch a.packets.slots.now a.packets.slot a.packets.lengths.now a.service.now.srv in
    let made = c.mark.ensures in
    let least-is = longest-is b _ _ _ s.1 s.2 made c.shortest-least.ensures in
    let put = c.put_leaves-k.ensures in
    let is = put.many ∙ counted b _ _ _ s.1 s.2 made _ in
    rw (sym least-is)
    (ended-none b _ a.service.now.cert.now a.service.now.seed a.service.now.midp a.service.now.radi a.service.now.room _ _ a.rows.now a.out.now made
    (same b _ _ _ s.1 s.2 made _) put is c.if-k-eq0.true c.put_lengths.ensures)

pub serve-requires : goal.serve-requires
serve-requires c =
    let a = c.args in
    let s = c.requires in
    let b = batch a.packets.slots.now a.packets.slot a.packets.lengths.now a.service.now.srv in
    let made = c.mark.ensures in
    let least-is = longest-is b _ _ _ s.1 s.2 made c.shortest-least.ensures in
    rw (puts-length c.put_leaves-k.ensures.puts)
    (can-serve b _ _ _ s.1 s.2 made least-is c.put_leaves-k.ensures.many c.if-k-eq0.false)

pub depth-requires : goal.depth-requires
depth-requires c =
    let a = c.args in
    let s = c.requires in
    let b = batch a.packets.slots.now a.packets.slot a.packets.lengths.now a.service.now.srv in
    let made = c.mark.ensures in
    let least-is = longest-is b _ _ _ s.1 s.2 made c.shortest-least.ensures in
    let fine = can-serve b _ _ _ s.1 s.2 made least-is c.put_leaves-k.ensures.many c.if-k-eq0.false in
    (fine.some, fine.few)

pub answer_length-size-requires : goal.answer_length-size-requires
answer_length-size-requires c =
    let a = c.args in
    let s = c.requires in
    let b = batch a.packets.slots.now a.packets.slot a.packets.lengths.now a.service.now.srv in
    let made = c.mark.ensures in
    let least-is = longest-is b _ _ _ s.1 s.2 made c.shortest-least.ensures in
    let fine = can-serve b _ _ _ s.1 s.2 made least-is c.put_leaves-k.ensures.many c.if-k-eq0.false in
    omega (arith, c.depth.ensures.0, fine.longest, fine.enough)

pub overflow_cast-size : goal.overflow_cast-size
overflow_cast-size c =
    let a = c.args in
    let s = c.requires in
    let b = batch a.packets.slots.now a.packets.slot a.packets.lengths.now a.service.now.srv in
    let made = c.mark.ensures in
    let least-is = longest-is b _ _ _ s.1 s.2 made c.shortest-least.ensures in
    let fine = can-serve b _ _ _ s.1 s.2 made least-is c.put_leaves-k.ensures.many c.if-k-eq0.false in
    let whole = held b _ _ _ s.1 s.2 made in
    let short =
    some-short _ _ _ _ whole c.shortest-least.result (length a.packets.lengths.now) (omega arith)
    (rw (← fine.all) fine.some) in
    omega (arith, c.answer_length-size.ensures, c.depth.ensures.0, fine.longest, short)

pub put_lengths-requires-2 : goal.put_lengths-requires-2
put_lengths-requires-2 c =
    let a = c.args in
    let s = c.requires in
    let b = batch a.packets.slots.now a.packets.slot a.packets.lengths.now a.service.now.srv in
    long b _ _ _ s.1 s.2 c.mark.ensures

pub returns : goal.returns
returns c =
    let a = c.args in
    let s = c.requires in
    let b = batch a.packets.slots.now a.packets.slot a.packets.lengths.now a.service.now.srv in
    let made = c.mark.ensures in
    let least-is = longest-is b _ _ _ s.1 s.2 made c.shortest-least.ensures in
    let put = c.put_leaves-k.ensures in
    let is = put.many ∙ counted b _ _ _ s.1 s.2 made _ in
    let fine = can-serve b _ _ _ s.1 s.2 made least-is put.many c.if-k-eq0.false in
    let size =
    c.answer_length-size.ensures ∙ ap (λ (d : ℕ). 264 + 32 * d + length a.service.now.cert.now) c.depth.ensures.0 in
    rw (sym least-is)
    (ended_some b _ a.service.now.cert.now a.service.now.seed a.service.now.midp a.service.now.radi a.service.now.room _ _ a.rows.now a.out.now made
    (same b _ _ _ s.1 s.2 made _) put is fine.some fine.few fine.held c.serve.ensures size c.put_lengths-2.ensures)
