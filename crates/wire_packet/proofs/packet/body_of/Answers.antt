-- `wire_packet::packet::body_of` meets its contract.
use Prim.Native.Nat.{◌-◌}
use native.Mathlib.Omega.{arith}
use lib.ListN.{length, drop, length-drop}
use lib.Seq.{take_all}
use Rattle.wire_packet.proofs.packet.body_of.Goals as goal

pub returns : goal.returns
returns c =
    let p = c.args.p.now in
    take_all (length p - 12) (drop 12 p) (omega (arith, length-drop 12 p))
