-- wire_message/proofs/frame/frame_code/Answers.antt
-- `wire_message::frame::frame_code` meets its contract. Each return is the first refusal of its row.
use Rattle.std.specs.Prelude.{Err}
use mathlib.Core.Path.{◌≡◌}
use Rattle.refusal.proofs.Passing.{passing, refused-by, test-on}
use Rattle.wire_message.proofs.Tests.{length-good, count-good}
use Rattle.wire_message.specs.Frame.{frame_code}
use borrow.Author.Rules.{rules}
use Rattle.wire_message.proofs.frame.frame_code.Goals as goal

pub returns-then-length_bad : goal.returns-then-length_bad
unfolding frame_code
returns-then-length_bad c = search passing depth 9

pub count_bad-requires : goal.count_bad-requires
count_bad-requires c = search (length-good, rules)

pub returns-then-count_bad : goal.returns-then-count_bad
unfolding frame_code
returns-then-count_bad c = search passing depth 9

pub offsets_code-requires : goal.offsets_code-requires
offsets_code-requires c = (search (length-good, rules), search (count-good, rules))

pub returns-in_err-offsets_code : goal.returns-in_err-offsets_code
unfolding frame_code
returns-in_err-offsets_code c =
    let e = c.in_err-offsets_code.field-0.0 in
    let told : c.offsets_code.result ≡ Err e = search rules in
    let handed : c.from_residual.result ≡ Err e = search rules in
    rw handed (search passing depth 9)

pub tags_code-requires : goal.tags_code-requires
tags_code-requires c = (search (length-good, rules), search (count-good, rules))

pub returns : goal.returns
unfolding frame_code
returns c = search passing depth 9
