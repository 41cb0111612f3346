-- `pile_runs::Known::shortest_run` meets its contract.
-- The least clean run whose ends contradict is the least that convicts.
use Rattle.std.specs.Prelude.{None, Some}
use Prim.Native.Nat.{◌+◌, ◌-◌}
use native.Mathlib.Omega.{arith}
use Rattle.pile_runs.proofs.Passed.{begin, next, found, nothing}
use Rattle.pile_runs.specs.Convict.{verdict_in, flag_in, Convicts}
use Rattle.pile_runs.proofs.ByEnds.{along, least-run, no_run}
use Rattle.pile_runs.proofs.Find.{both-clauses}
use Rattle.pile_runs.proofs.Known.shortest_run.Goals as goal

pub loop-gap-init : goal.loop-gap-init
loop-gap-init c = begin

pub returns-in-Some : goal.returns-in-Some
returns-in-Some c =
    let start = c.in-Some.ensures in
    let v = verdict_in c.args.self.now.verdicts in
    let l = flag_in c.args.self.now.linked in
    let least = least-run {v = v} {linked = l} (found (along c.loop-gap.invariant start.passed) start.within start.here) in
    let both = both-clauses (Convicts v l c.min-m.result) (Some (c.in-Some.first, (c.in-Some.first + c.loop-gap.gap))) least in
    rw (← c.min-m.ensures) record { tells = both.0; answers = both.1 }

pub loop-gap-preserved : goal.loop-gap-preserved
loop-gap-preserved c =
    next {i = c.min-m.result - c.loop-gap.gap}
    (along c.loop-gap.invariant (λ k l. c.in_default.ensures k (omega arith))) (omega arith)

pub returns : goal.returns
returns c =
    let v = verdict_in c.args.self.now.verdicts in
    let l = flag_in c.args.self.now.linked in
    let none = no_run {v = v} {linked = l} (nothing c.loop-gap.invariant c.loop-gap-test.false) in
    let both = both-clauses (Convicts v l c.min-m.result) None none in
    rw (← c.min-m.ensures) record { tells = both.0; answers = both.1 }
