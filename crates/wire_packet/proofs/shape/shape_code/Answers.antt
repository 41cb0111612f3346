-- wire_packet/proofs/shape/shape_code/Answers.antt
-- `wire_packet::shape::shape_code` meets its contract. Each return is the first refusal of the row.
use Rattle.std.specs.Prelude.{Err}
use mathlib.Core.Path.{◌≡◌, refl}
use Rattle.refusal.proofs.Passing.{goes-on, passed-on, refused-by, last-is}
use Rattle.wire_message.proofs.Codes.{message-good, message-passes}
use Rattle.wire_packet.specs.Response.{shape_code}
use Rattle.wire_packet.specs.Tables.{cert_table}
use borrow.Author.Rules.{rules}
use Rattle.wire_packet.proofs.shape.shape_code.Goals as goal

pub value_code-requires : goal.value_code-requires
value_code-requires c = search (message-passes, rules)

pub value_code-requires-2 : goal.value_code-requires-2
value_code-requires-2 c = search (message-passes, rules)

pub dele_code-requires : goal.dele_code-requires
dele_code-requires c = (
  search (message-passes, rules),
  message-good _ cert_table _ refl (goes-on _ c.value_code-2.ensures (search rules)),
)

pub returns-in_err-message_code : goal.returns-in_err-message_code
unfolding shape_code
returns-in_err-message_code c =
    let e = c.in_err-message_code.field-0.0 in
    let told : c.message_code.result ≡ Err e = search rules in
    let handed : c.from_residual.result ≡ Err e = search rules in
    rw handed (refused-by _ _ c.message_code.ensures told)

pub returns-in_err-value_code : goal.returns-in_err-value_code
unfolding shape_code
returns-in_err-value_code c =
    let e = c.in_err-value_code.field-0.0 in
    let told : c.value_code.result ≡ Err e = search rules in
    let handed : c.from_residual-in_err-value_code.result ≡ Err e = search rules in
    rw handed
    (passed-on _ _ _ c.message_code.ensures (search rules) (refused-by _ _ c.value_code.ensures told))

pub returns-in_err-value_code-2 : goal.returns-in_err-value_code-2
unfolding shape_code
returns-in_err-value_code-2 c =
    let e = c.in_err-value_code-2.field-0.0 in
    let told : c.value_code-2.result ≡ Err e = search rules in
    let handed : c.from_residual-in_err-value_code-2.result ≡ Err e = search rules in
    rw handed
    (passed-on _ _ _ c.message_code.ensures (search rules)
    (passed-on _ _ _ c.value_code.ensures (search rules) (refused-by _ _ c.value_code-2.ensures told)))

pub returns : goal.returns
unfolding shape_code
returns c =
    passed-on _ _ _ c.message_code.ensures (search rules)
    (passed-on _ _ _ c.value_code.ensures (search rules)
    (passed-on _ _ _ c.value_code-2.ensures (search rules) (last-is _ c.dele_code.ensures)))
