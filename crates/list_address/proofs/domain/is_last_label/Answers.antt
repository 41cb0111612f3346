use mathlib.Core.Bool.{not}
use mathlib.Core.Path.{◌∙◌, ap}
use borrow.Author.Rules.{rules}
use borrow.Author.Tests.{tests}
use Rattle.json_tokens.specs.Scan.{digit}
use Rattle.std.proofs.lemmas.Iterator.{YieldsList-from_slice}
use Rattle.std.proofs.lemmas.Iterator.Search.{all_from_yields_List}
use Rattle.laws.specs.Pick.{both}
use Rattle.list_address.specs.Host.{is_last_label}
use Rattle.list_address.proofs.Scans.{every_all}
use Rattle.list_address.proofs.Tests.{both-on}
use Rattle.list_address.proofs.domain.is_last_label.Goals as goal

pub returns-then-is_label : goal.returns-then-is_label
unfolding is_last_label both
returns-then-is_label c =
    let e = all_from_yields_List digit _ _ c.all.result c.all.ensures.ran (YieldsList-from_slice c.args.s.now cc) (λ x b q k. search (rules, tests)) in
    both-on c.is_label.ensures (ap not c.if-is_label.true)
    (ap not (e ∙ every_all digit c.args.s.now))
