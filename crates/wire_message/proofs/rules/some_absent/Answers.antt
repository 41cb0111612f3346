-- wire_message/proofs/rules/some_absent/Answers.antt
-- `wire_message::rules::some_absent` meets its contract.
use mathlib.Core.Path.{◌∙◌}
use mathlib.Core.Bool.{Bool}
use borrow.Author.Rules.{rules}
use Rattle.std.proofs.lemmas.Iterator.{YieldsList-from_slice}
use Rattle.std.proofs.lemmas.Iterator.Search.{any_from_yields_List}
use Rattle.wire_message.specs.Rules.{absent, may, message}
use Rattle.wire_message.specs.declared.rules.TagRule.{TagRule}
use Rattle.wire_message.proofs.Scans.{any_somewhere}
use Rattle.wire_message.proofs.rules.some_absent.Goals as goal

pub returns : goal.returns
returns c =
    let test : TagRule → Bool = λ row. absent c.args.m.now row.tag row.needed in
    any_from_yields_List test _ _ c.any.result c.any.ensures.ran (YieldsList-from_slice c.args.table.now cc)
    (λ x b q k. search rules)
    ∙ any_somewhere test (may 0 message) c.args.table.now
