use mathlib.Core.Path.{◌∙◌, sym, ap, refl}
use native.Mathlib.Omega.{arith}
use borrow.Author.Rules.{rules}
use lib.Dec.{eqb}
use lib.ListN.{length}
use Rattle.std.specs.Prelude.{Some}
use Rattle.std.specs.Option.{option_eq}
use Rattle.std.proofs.lemmas.Iterator.{YieldsList-from_range}
use Rattle.std.proofs.lemmas.Iterator.Search.{position_from_yields_List}
use Rattle.list_address.specs.Host.{double_at}
use Rattle.laws.proofs.Ranges.{found-least, unfound-least}
use Rattle.list_address.proofs.Pieces.{double-there, whole, shortened}
use Rattle.list_address.proofs.ipv6.is_ipv6.Goals as goal

pub is_shortened-requires : goal.is_shortened-requires
is_shortened-requires c =
    let n = length c.args.s.now in
    let e = position_from_yields_List (double_at c.args.s.now) _ _ c.position.result c.position.ensures.ran (YieldsList-from_range 0 n n refl (omega arith)) (λ x b q k. search rules) in
    let f = found-least (double_at c.args.s.now) n (sym e ∙ c.in-Some.is) in
    (f.1, double-there _ f.0 f.1)

pub returns-in-Some : goal.returns-in-Some
returns-in-Some c =
    let n = length c.args.s.now in
    let e = position_from_yields_List (double_at c.args.s.now) _ _ c.position.result c.position.ensures.ran (YieldsList-from_range 0 n n refl (omega arith)) (λ x b q k. search rules) in
    let f = found-least (double_at c.args.s.now) n (sym e ∙ c.in-Some.is) in
    shortened _ f.0 f.1 c.is_shortened.ensures

pub returns-in-None : goal.returns-in-None
returns-in-None c =
    let n = length c.args.s.now in
    let e = position_from_yields_List (double_at c.args.s.now) _ _ c.position.result c.position.ensures.ran (YieldsList-from_range 0 n n refl (omega arith)) (λ x b q k. search rules) in
    whole _ (unfound-least (double_at c.args.s.now) n (sym e ∙ c.in-None.is))
    (c.eq.ensures ∙ ap (λ d. option_eq eqb d (Some 8)) c.pieces.ensures.value)
