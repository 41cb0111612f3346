-- `wire_packet::parts::shaped_parts` meets its contract.
use Rattle.wire_packet.specs.Parts.{parts_in}
use borrow.Author.Rules.{rules}
use Rattle.wire_packet.proofs.parts.shaped_parts.Goals as goal

pub value64-delegation-requires : goal.value64-delegation-requires
value64-delegation-requires c = rw c.value_of.ensures (search rules)

pub value32-pubk-requires : goal.value32-pubk-requires
value32-pubk-requires c = rw c.dele_of.ensures (search rules)

pub returns : goal.returns
unfolding parts_in
returns c =
    rw (
      c.value32-pubk.ensures,
      c.dele_of.ensures,
      c.value64-delegation.ensures,
      c.value_of.ensures,
      c.value64-signature.ensures,
    )
