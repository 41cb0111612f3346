-- `wire_message::values::index_of` meets its contract: `position` answers the first place at which the tag stands.
use mathlib.Core.Path.{refl, ap, ◌∙◌}
use native.Mathlib.Omega.{arith}
use borrow.Author.Rules.{rules}
use borrow.Author.Tests.{tests}
use Rattle.std.proofs.lemmas.Iterator.{YieldsList-from_range}
use Rattle.std.proofs.lemmas.Iterator.Search.{position_from_yields_List}
use Rattle.std.specs.Option.{unwrap_or}
use Rattle.laws.specs.Least.{least}
use Rattle.laws.proofs.Ranges.{range_least}
use Rattle.wire_message.specs.Values.{is_tag, index_of}
use Rattle.wire_message.proofs.values.index_of.Goals as goal

pub returns : goal.returns
unfolding index_of
returns c =
    let test = is_tag c.args.m.now c.args.tag in
    let n = c.le32-n.result in
    let found =
    position_from_yields_List test _ _ c.position.result c.position.ensures.ran
    (YieldsList-from_range 0 n n refl (omega arith)) (λ x b q k. search (rules, tests)) in
    c.unwrap_or.ensures ∙ ap (λ o. unwrap_or o n) found ∙ range_least test n ∙ ap (least test) c.le32-n.ensures
