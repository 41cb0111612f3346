-- `wire_message::values::value_of` meets its contract. A good frame has the value within the message.
use native.Mathlib.Omega.{arith}
use Rattle.wire_message.proofs.Edges.{Inside, value_found, value-absent, value_in}
use borrow.Author.Rules.{rules}
use Rattle.wire_message.proofs.values.value_of.Statement.{statement}
use Rattle.wire_message.proofs.values.value_of.Tie as tie

-- value k, at the place where k is known to be a tag's: its edges rise and stand in the value section
inside : (c : tie.Then-k-n) → Inside c.before.before.before.before.args.m.now c.before.index_of-k.result
inside c = value_in _ c.before.before.before.before.requires _ (omega arith)

add_a : tie.Need-overflow_add-a
add_a c = omega (arith, inside c.before)

add-e : tie.Need-overflow_add-e
add-e c = omega (arith, inside c.before.before)

sub-result : tie.Need-slice_bounds-result-count
sub-result c = omega (arith, inside c.before.before)

part-result-start : tie.Need-slice_bounds-result-start
part-result-start c = omega (arith, inside c.before.before)

part-result-end : tie.Need-slice_bounds-result-end
part-result-end c = omega (arith, inside c.before.before)

returns : tie.Need-returns-then-k-n
returns c = search (value_found, rules)

returns-2 : tie.Need-returns-else-k-n
returns-2 c = search (value-absent, rules)

pub value_of_spec : {M : Type 1} → statement M
value_of_spec =
    tie.close
    (tie.spec
    (λ c κs. search rules)
    (λ c. search rules)
    (λ c κs. search rules)
    (λ c. search rules)
    (λ c κs. search rules)
    add_a
    (λ c. search rules)
    (λ c. search rules)
    (λ c κs. search rules)
    add-e
    sub-result
    part-result-start
    part-result-end
    (λ c. search rules)
    returns
    returns-2)
