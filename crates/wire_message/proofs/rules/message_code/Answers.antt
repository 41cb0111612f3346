-- wire_message/proofs/rules/message_code/Answers.antt
-- `wire_message::rules::message_code` meets its contract. Each return is the first refusal of its row.
use Rattle.std.specs.Prelude.{Err}
use mathlib.Core.Path.{◌≡◌}
use Rattle.refusal.proofs.Passing.{passing}
use Rattle.wire_message.proofs.Codes.{frame-passes}
use Rattle.wire_message.specs.Rules.{message_code}
use borrow.Author.Rules.{rules}
use Rattle.wire_message.proofs.rules.message_code.Goals as goal

pub returns-in_err-frame_code : goal.returns-in_err-frame_code
unfolding message_code
returns-in_err-frame_code c =
    let e = c.in_err-frame_code.field-0.0 in
    let told : c.frame_code.result ≡ Err e = search rules in
    let handed : c.from_residual.result ≡ Err e = search rules in
    rw handed (search passing depth 9)

pub some_absent-requires : goal.some_absent-requires
some_absent-requires c = search (frame-passes, rules)

pub returns-then-some_absent : goal.returns-then-some_absent
unfolding message_code
returns-then-some_absent c = search passing depth 9

pub values_code-requires : goal.values_code-requires
values_code-requires c = search (frame-passes, rules)

pub returns : goal.returns
unfolding message_code
returns c = search passing depth 9
