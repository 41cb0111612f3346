-- `server_batch::marking::meant_at` meets its contract. Each way out has its law.
use native.Mathlib.Omega.{arith}
use Rattle.server_batch.proofs.Meant.{meant-long, meant-short, slot-inside}
use Rattle.server_batch.proofs.marking.meant_at.Goals as goal

pub returns-then-packets-size : goal.returns-then-packets-size
returns-then-packets-size c = meant-long _ _ c.size.ensures c.if-packets-size.true

-- where the packet is no longer than its slot, it is inside

pub packet-requires : goal.packet-requires
packet-requires c =
    (c.requires.1, slot-inside _ _ _ _ _ c.requires.0.whole c.requires.1 (omega (arith, c.if-packets-size.false, c.size.ensures)))

pub returns : goal.returns
returns c =
    meant-short _ _ c.size.ensures c.if-packets-size.false c.packet.ensures c.meant_for.ensures
