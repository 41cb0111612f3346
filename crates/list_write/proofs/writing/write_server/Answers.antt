use mathlib.Core.Path.{◌≡◌}
use borrow.Author.Rules.{rules}
use lib.ListN.{length}
use Rattle.std.specs.Prelude.{Err, Ok}
use Rattle.refusal.proofs.Passing.{goes-on}
use Rattle.list_write.specs.Given.{given, server_code}
use Rattle.list_write.specs.Texts.{server_text}
use Rattle.list_write.specs.Answers.{server_answer}
use Rattle.list_write.proofs.Answering.{room-short, room-left, answer-refused, answer-short, answer-done, server-ready}
use Rattle.list_write.proofs.writing.write_server.Goals as goal

pub returns-in_err-check_server : goal.returns-in_err-check_server
unfolding server_answer
returns-in_err-check_server c =
    let a = c.args in
    let e = c.in_err-check_server.field-0.0 in
    let told : c.check_server.result ≡ Err e = search rules in
    let handed : c.from_residual.result ≡ Err e = search rules in
    let w = answer-refused (server_code a.name.now a.addresses.now) c.check_server.ensures
    (server_text (given a.name.now a.version a.key a.addresses.now)) a.out.now told in
    rw handed (record { value = w.0; out_after = w.1 })

pub server_room-requires : goal.server_room-requires
server_room-requires c = server-ready _ _ (goes-on _ c.check_server.ensures (search rules))

pub put_server-requires : goal.put_server-requires
put_server-requires c = (
  server-ready _ _ (goes-on _ c.check_server.ensures (search rules)),
  room-left (length c.args.out.now) _ c.server_room.ensures c.in-Some.is,
)

pub returns-in-Some : goal.returns-in-Some
unfolding server_answer
returns-in-Some c =
    let a = c.args in
    let w = answer-done (server_code a.name.now a.addresses.now) c.check_server.ensures
    (server_text (given a.name.now a.version a.key a.addresses.now)) a.out.now (search rules) c.put_server.ensures in
    record { value = w.0; out_after = w.1 }

pub returns-in-None : goal.returns-in-None
unfolding server_answer
returns-in-None c =
    let a = c.args in
    let w = answer-short (server_code a.name.now a.addresses.now) c.check_server.ensures
    (server_text (given a.name.now a.version a.key a.addresses.now)) a.out.now (search rules)
    (room-short (length a.out.now) _ c.server_room.ensures c.in-None.is) in
    rw c.refuse.ensures (record { value = w.0; out_after = w.1 })
