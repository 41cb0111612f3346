-- wire_packet/proofs/requests/request_message_code/Answers.antt
-- `wire_packet::requests::request_message_code` meets its contract. Each return is the first refusal of the row.
use Rattle.std.specs.Prelude.{Err}
use mathlib.Core.Path.{◌≡◌, refl, ap}
use Prim.Native.Nat.{ℕ}
use lib.Dec.{eqb}
use mathlib.Core.Bool.{not}
use borrow.Author.Tests.{eq-eqb, ne_eqb}
use native.Mathlib.Omega.{arith}
use Rattle.laws.specs.Numbers.{le}
use Rattle.refusal.proofs.Passing.{goes-on, passed-on, refused-by, test-on, test-refuses, none-left}
use Rattle.wire_message.specs.Tags.{TYPE}
use Rattle.wire_message.specs.Values.{value_of}
use Rattle.wire_message.proofs.Codes.{message-passes, kept}
use Rattle.wire_packet.specs.Request.{request_message_code}
use Rattle.wire_packet.specs.Tables.{request_table}
use borrow.Author.Rules.{rules}
use Rattle.wire_packet.proofs.requests.request_message_code.Goals as goal

pub number32-requires : goal.number32-requires
number32-requires c =
    let e = goes-on _ c.message_code.ensures (search rules) in
    (search (message-passes, rules), omega (arith, kept _ request_table e 3 tt refl))

pub lacks_version-requires : goal.lacks_version-requires
lacks_version-requires c = search (message-passes, rules)

pub returns-in_err-message_code : goal.returns-in_err-message_code
unfolding request_message_code
returns-in_err-message_code c =
    let e = c.in_err-message_code.field-0.0 in
    let told : c.message_code.result ≡ Err e = search rules in
    let handed : c.from_residual.result ≡ Err e = search rules in
    rw handed (refused-by _ _ c.message_code.ensures told)

pub returns-then-number32-ne0 : goal.returns-then-number32-ne0
unfolding request_message_code
returns-then-number32-ne0 c =
    let kind : not (eqb c.number32.result 0) ≡ not (eqb (le 4 (value_of c.args.m.now TYPE) 0) 0) = ap (λ (n : ℕ). not (eqb n 0)) c.number32.ensures in
    passed-on _ _ _ c.message_code.ensures (search rules)
    (test-refuses _ _ c.refuse.ensures tt kind (ap not (ne_eqb _ 0 c.if-number32-ne0.true)))

pub returns-then-lacks_version : goal.returns-then-lacks_version
unfolding request_message_code
returns-then-lacks_version c =
    let kind : not (eqb c.number32.result 0) ≡ not (eqb (le 4 (value_of c.args.m.now TYPE) 0) 0) = ap (λ (n : ℕ). not (eqb n 0)) c.number32.ensures in
    passed-on _ _ _ c.message_code.ensures (search rules)
    (test-on _ _ kind (ap not (eq-eqb _ 0 c.if-number32-ne0.false))
    (test-refuses _ _ c.refuse-then-lacks_version.ensures tt c.lacks_version.ensures c.if-lacks_version.true))

pub returns : goal.returns
unfolding request_message_code
returns c =
    let kind : not (eqb c.number32.result 0) ≡ not (eqb (le 4 (value_of c.args.m.now TYPE) 0) 0) = ap (λ (n : ℕ). not (eqb n 0)) c.number32.ensures in
    passed-on _ _ _ c.message_code.ensures (search rules)
    (test-on _ _ kind (ap not (eq-eqb _ 0 c.if-number32-ne0.false))
    (test-on _ _ c.lacks_version.ensures c.if-lacks_version.false none-left))
