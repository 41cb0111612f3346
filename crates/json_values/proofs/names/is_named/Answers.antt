use borrow.Author.Rules.{rules}
use borrow.Author.Tests.{not-true, eqb-false}
use mathlib.Core.Path.{sym, ◌∙◌}
use Rattle.laws.proofs.Holds.{both}
use Rattle.json_values.specs.Members.{named}
use Rattle.json_tokens.proofs.Picks.{picks}
use Rattle.json_values.proofs.Finds.{unnamed-first}
use Rattle.json_values.proofs.names.is_named.Goals as goal

pub returns-then-b-ne34 : goal.returns-then-b-ne34
unfolding named
returns-then-b-ne34 c = search (picks, rules)

pub overflow_add-k : goal.overflow_add-k
overflow_add-k c = search (picks, rules)

pub returns-then-x-byte : goal.returns-then-x-byte
returns-then-x-byte c =
    let t = both _ _ c.if-x-byte.true in
    sym (unnamed-first _ _ _ c.byte-x.ensures (sym c.is_unescaped.ensures ∙ t.1)
    (λ q. eqb-false _ _ (not-true _ t.0) (q ∙ sym c.byte.ensures)))

pub overflow_add-k-2 : goal.overflow_add-k-2
overflow_add-k-2 c = search (picks, rules)

pub returns : goal.returns
unfolding named
returns c = search (picks, rules)
