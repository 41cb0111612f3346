use borrow.Author.Rules.{rules}
use native.Mathlib.Omega.{arith}
use mathlib.Core.Path.{◌∙◌}
use Rattle.json_strings.proofs.Content.{end-past}
use Rattle.json_strings.proofs.Runs.{run-ahead, run-unquoted, run-begun, run-lettered, run-closed}
use Rattle.json_strings.proofs.Units.{units}
use Rattle.json_strings.proofs.strings.measured.Goals as goal

pub returns-then-b-ne34 : goal.returns-then-b-ne34
returns-then-b-ne34 c =
    let q = run-unquoted _ _ c.byte-b.ensures c.if-b-ne34.true in record { at_value = q.0; lettered = q.1 }

pub overflow_add-at : goal.overflow_add-at
overflow_add-at c = search (units, rules)

pub returns-then-byte-eq34 : goal.returns-then-byte-eq34
returns-then-byte-eq34 c =
    let q =
    run-closed _ _ c.byte-b.ensures c.if-b-ne34.false
    c.run_from-k.ensures c.byte.ensures c.if-byte-eq34.true in record { at_value = q.0 ∙ end-past (λ z. omega arith); lettered = q.1 }

pub returns : goal.returns
returns c =
    let k = c.run_from-k.ensures in record {
      at_value = run-begun _ _ c.byte-b.ensures
          c.if-b-ne34.false k ∙ c.counted.ensures.at_value;
      lettered = run-lettered _ _ k c.counted.ensures.at_value_2;
    }

pub overflow_add-result : goal.overflow_add-result
overflow_add-result c = search (units, rules)

pub overflow_sub-result : goal.overflow_sub-result
overflow_sub-result c = omega (arith, run-ahead _ _ c.run_from-k.ensures)

pub overflow_sub-result-then-byte-eq34 : goal.overflow_sub-result-then-byte-eq34
overflow_sub-result-then-byte-eq34 c = omega (arith, run-ahead _ _ c.run_from-k.ensures)

pub overflow_sub-k : goal.overflow_sub-k
overflow_sub-k c = omega (arith, run-ahead _ _ c.run_from-k.ensures)

pub overflow_sub-k-2 : goal.overflow_sub-k-2
overflow_sub-k-2 c = omega (arith, run-ahead _ _ c.run_from-k.ensures)

pub counted-requires : goal.counted-requires
counted-requires c = omega (arith, run-ahead _ _ c.run_from-k.ensures)
