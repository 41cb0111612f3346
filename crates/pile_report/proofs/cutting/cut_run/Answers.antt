-- `pile_report::cutting::cut_run` meets its contract. Each return knows which tests led to it.
use mathlib.Core.Path.{◌≡◌}
use Rattle.laws.proofs.Written.{written-whole}
use Rattle.pile_report.specs.Taking.{code-19, code-18}
use Rattle.std.specs.Prelude.{Err}
use Rattle.refusal.proofs.Passing.{error-is, error-refuses}
use Rattle.pile_report.proofs.Says.{good_of}
use borrow.Author.Rules.{rules}
use Rattle.pile_report.proofs.Runs.{cut-bad}
use Rattle.pile_report.proofs.cutting.cut_run.Goals as goal

pub returns-in_err-pile_code-clause-takes : goal.returns-in_err-pile_code-clause-takes
returns-in_err-pile_code-clause-takes c =
    let e = c.in_err-pile_code.field-0.0 in
    let told : c.pile_code.result ≡ Err e = search rules in
    let handed : c.from_residual.result ≡ Err e = search rules in
    let why = error-is _ c.pile_code.ensures told in
    rw handed (cut-bad _ _ _ c.args.out.now why (error-refuses _ c.pile_code.ensures told)).0

pub returns-then-out-pile-clause-takes : goal.returns-then-out-pile-clause-takes
returns-then-out-pile-clause-takes c =
    rw c.refuse.ensures
    (code-19 (good_of _ _ c.pile_code.ensures (search rules)) c.if-out-pile.true)

pub run_in-requires : goal.run_in-requires
run_in-requires c = good_of _ _ c.pile_code.ensures (search rules)

pub returns-in-None-clause-takes : goal.returns-in-None-clause-takes
returns-in-None-clause-takes c =
    rw c.refuse-in-None.ensures
    (code-18 (good_of _ _ c.pile_code.ensures (search rules)) c.if-out-pile.false
    c.in-None.ensures)

pub returns-in-Some-clause-takes : goal.returns-in-Some-clause-takes
returns-in-Some-clause-takes c = (
  good_of _ _ c.pile_code.ensures (search rules),
  c.if-out-pile.false,
  c.in-Some.ensures,
)

pub returns-in-Some-clause-out_after : goal.returns-in-Some-clause-out_after
returns-in-Some-clause-out_after c = written-whole c.put_run.ensures
