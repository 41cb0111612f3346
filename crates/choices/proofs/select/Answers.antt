-- `choices::select` meets its contract.
use mathlib.Core.Bool.{cond}
use borrow.Author.Rules.{rules}
use lib.Dec.{eqb}
use lib.ListN.{get_or}
use Rattle.laws.proofs.Made.{made}
use Rattle.choices.proofs.Masks.{chosen}
use Rattle.choices.proofs.select.Goals as goal

pub returns : goal.returns
returns c =
    let a = c.args in
    let out = c.from_fn.ensures.items in
    chosen (eqb a.bit 1) 5 a.a a.b c.from_fn.result (search rules) (search rules) out.long
    (made _ (λ i. cond (eqb a.bit 1) (get_or a.b i 0) (get_or a.a i 0)) _ 0 c.from_fn.result (λ i y q k. search rules) 5 out)
