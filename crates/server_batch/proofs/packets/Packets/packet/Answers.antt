-- `server_batch::packets::Packets::packet` meets its contract.
use mathlib.Core.Path.{◌≡◌, ap, ◌∙◌}
use Prim.Native.Nat.{ℕ, ◌+◌, ◌*◌, ◌-◌}
use native.Mathlib.Omega.{arith}
use lib.ListN.{take, drop}
use Rattle.server_batch.specs.Batch.{packet_in}
use Rattle.server_batch.proofs.packets.Packets.packet.Goals as goal

pub returns : goal.returns
unfolding packet_in
returns c =
    let a = c.args.self in
    let start = a.slot * c.args.i in
    let e : start + c.size.result - start ≡ c.size.result = omega arith in
    ap (λ (n : ℕ). take n (drop start a.slots.now)) (e ∙ c.size.ensures)
