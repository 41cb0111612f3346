-- `wire_packet::fields::value32` meets its contract.
use mathlib.Core.Path.{ap, ◌∙◌}
use native.Mathlib.Omega.{arith}
use lib.ListN.{take}
use lib.Seq.{take_all}
use Rattle.wire_message.specs.Values.{value_of}
use Rattle.wire_packet.proofs.fields.value32.Goals as goal

pub copy32-requires : goal.copy32-requires
copy32-requires c = rw c.value_of.ensures (omega arith)

pub returns : goal.returns
returns c =
    let a = c.args in
    c.copy32.ensures ∙ ap (take 32) c.value_of.ensures
    ∙ take_all 32 (value_of a.m.now a.tag) (omega arith)
