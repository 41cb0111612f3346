-- `wire_packet::fields::value64` meets its contract. The value fills the array.
use mathlib.Core.Path.{ap, ◌∙◌}
use native.Mathlib.Omega.{arith}
use lib.ListN.{length, replicate}
use Rattle.laws.proofs.Pasted.{pasted-end}
use Rattle.wire_packet.proofs.fields.value64.Goals as goal

pub put-requires : goal.put-requires
put-requires c = rw c.value_of.ensures (omega arith)

pub returns : goal.returns
returns c =
    let e = c.value_of.ensures in
    c.put.ensures ∙ pasted-end (replicate 64 0) _ 0 (omega (arith, ap length e)) ∙ e
