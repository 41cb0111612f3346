-- server_response/proofs/refusing/cert_code/Answers.antt
-- `server_response::refusing::cert_code` meets its contract. Each return is the first refusal of the row.
use Rattle.std.specs.Prelude.{Err}
use mathlib.Core.Path.{◌≡◌}
use Rattle.refusal.proofs.Passing.{passed-on, refused-by, last-is}
use Rattle.wire_message.proofs.Codes.{message-passes}
use Rattle.wire_packet.specs.Tables.{cert_table}
use Rattle.server_response.specs.Refusing.{cert_code}
use borrow.Author.Rules.{rules}
use Rattle.server_response.proofs.refusing.cert_code.Goals as goal

pub returns-in_err-message_code : goal.returns-in_err-message_code
unfolding cert_code
returns-in_err-message_code c =
    let e = c.in_err-message_code.field-0.0 in
    let told : c.message_code.result ≡ Err e = search rules in
    let handed : c.from_residual.result ≡ Err e = search rules in
    rw handed (refused-by _ _ c.message_code.ensures told)

pub value_code-requires : goal.value_code-requires
value_code-requires c = message-passes _ cert_table c.message_code.ensures (search rules)

pub returns : goal.returns
unfolding cert_code
returns c = passed-on _ _ _ c.message_code.ensures (search rules) (last-is _ c.value_code.ensures)
