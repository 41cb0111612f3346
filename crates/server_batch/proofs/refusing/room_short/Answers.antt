-- `server_batch::refusing::room_short` meets its contract. Each way out has its law.
use mathlib.Core.Path.{◌≡◌}
use Prim.Native.Nat.{◌*◌}
use native.Mathlib.Omega.{arith}
use lib.ListN.{length}
use Rattle.tree.specs.Tree.{depth_of}
use Rattle.tree_build.specs.AllRows.{nodes_of}
use Rattle.server_batch.proofs.Rooms.{short-packets, short-rows, short-out, short_lengths, short-cert}
use Rattle.server_batch.proofs.Rooms.{short-answer}
use Rattle.server_batch.proofs.refusing.room_short.Goals as goal

pub returns-then-packets-n : goal.returns-then-packets-n
returns-then-packets-n c = short-packets _ _ _ _ _ _ _ _ c.requires.0 c.if-packets-n.true

pub returns-then-rows-bytes : goal.returns-then-rows-bytes
returns-then-rows-bytes c =
    let size : c.bytes.result ≡ 32 * nodes_of (depth_of (length c.args.packets.lengths.now)) =
    rw (← c.depth-d.ensures.0) c.bytes.ensures in
    short-rows _ _ _ _ _ _ _ _ c.requires.0 (omega (arith, c.if-rows-bytes.true, size))

pub returns-then-out-n : goal.returns-then-out-n
returns-then-out-n c = short-out _ _ _ _ _ _ _ _ c.requires.0 c.if-out-n.true

pub returns-then-lengths-n : goal.returns-then-lengths-n
returns-then-lengths-n c = short_lengths _ _ _ _ _ _ _ _ c.requires.0 c.if-lengths-n.true

pub returns-then-service-c : goal.returns-then-service-c
returns-then-service-c c = short-cert _ _ _ _ _ _ _ _ c.requires.0 c.if-service-c.true

pub returns : goal.returns
returns c =
    let size : c.bytes.result ≡ 32 * nodes_of (depth_of (length c.args.packets.lengths.now)) =
    rw (← c.depth-d.ensures.0) c.bytes.ensures in
    short-answer _ _ _ _ _ _ _ _ c.requires.0 (omega (arith, c.if-packets-n.false))
    (omega (arith, c.if-rows-bytes.false, size))
    (omega (arith, c.if-out-n.false)) (omega (arith, c.if-lengths-n.false)) (omega (arith, c.if-service-c.false))
    c.depth-d.ensures.0
