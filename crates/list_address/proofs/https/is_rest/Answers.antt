use mathlib.Core.Path.{◌∙◌, sym}
use lib.Dec.{eqb}
use borrow.Author.Rules.{rules}
use borrow.Author.Tests.{tests}
use Rattle.std.proofs.lemmas.Iterator.{YieldsList-from_slice}
use Rattle.std.proofs.lemmas.Iterator.Search.{position_from_yields_List}
use Rattle.list_address.specs.Https.{is_rest}
use Rattle.laws.specs.Pick.{both}
use Rattle.list_address.proofs.Tails.{tail_all}
use Rattle.list_address.proofs.Rest.{rest-whole, found-fragment, no-fragment}
use Rattle.list_address.proofs.https.is_rest.Goals as goal

pub returns-in-None : goal.returns-in-None
returns-in-None c =
    let e = position_from_yields_List (λ b. eqb b 35) _ _ c.position.result c.position.ensures.ran (YieldsList-from_slice c.args.s.now cc) (λ x b q k. search (rules, tests)) in
    c.is_clean-in-None.ensures ∙ rest-whole _ (no-fragment _ (sym e ∙ c.in-None.is))

pub returns-then-is_clean : goal.returns-then-is_clean
unfolding is_rest both
returns-then-is_clean c =
    let e = position_from_yields_List (λ b. eqb b 35) _ _ c.position.result c.position.ensures.ran (YieldsList-from_slice c.args.s.now cc) (λ x b q k. search (rules, tests)) in
    let f = found-fragment c.args.s.now (sym e ∙ c.in-Some.is) in
    rw (sym f.0) (rw (sym c.is_clean.ensures ∙ c.if-is_clean.true) (rw tail_all at c.is_clean-then-is_clean.ensures))

pub returns-else-is_clean : goal.returns-else-is_clean
unfolding is_rest both
returns-else-is_clean c =
    let e = position_from_yields_List (λ b. eqb b 35) _ _ c.position.result c.position.ensures.ran (YieldsList-from_slice c.args.s.now cc) (λ x b q k. search (rules, tests)) in
    let f = found-fragment c.args.s.now (sym e ∙ c.in-Some.is) in
    rw (sym f.0) (rw (sym c.is_clean.ensures ∙ c.if-is_clean.false) c.if-is_clean.false)
