-- `pile_runs::Known::first_start` meets its contract. No run of this length that starts before `start` is clean with
-- ends that contradict.
use mathlib.Core.Path.{ap₂, ◌∙◌}
use Prim.Native.Nat.{ℕ, ◌+◌}
use native.Mathlib.Omega.{arith}
use borrow.Author.Count.{below_more}
use Rattle.pile_runs.specs.Clash.{contradicting}
use Rattle.pile_runs.proofs.Past.{reads}
use Rattle.pile_runs.proofs.Told.{told-true, told-false, is_true, is_false}
use Rattle.pile_runs.specs.Convict.{verdict_in, flag_in}
use Rattle.pile_runs.specs.Searched.{Exposes}
use Rattle.pile_runs.proofs.Known.first_start.Goals as goal
use Rattle.pile_runs.proofs.Known.first_start.Goals.{then-both_contradict+else-is_clean, else-both_contradict}

pub loop-start-init : goal.loop-start-init
loop-start-init c = (λ k l. absurd (omega arith), omega arith)

pub returns-then-is_clean : goal.returns-then-is_clean
returns-then-is_clean c =
    let vs = c.args.self.now.verdicts in
    let k = c.loop-start.start in
    let both =
    c.both_contradict.ensures
    ∙ ap₂ contradicting (reads vs k _ (omega arith)) (reads vs (k + c.args.gap) _ (omega arith)) in
    record {
      within = omega arith;
      passed = c.loop-start.invariant.0;
      here = record {
        clean = told-true c.is_clean.result c.is_clean.ensures c.if-is_clean.true;
        clash = is_true both c.if-both_contradict.true;
      };
    }

pub loop-start-preserved : goal.loop-start-preserved
loop-start-preserved c =
    let loop = c.loop-start in
    let args = c.args in
    let vs = args.self.now.verdicts in
    let k = loop.start in
    let both =
    c.both_contradict.ensures
    ∙ ap₂ contradicting (reads vs k _ (omega arith)) (reads vs (k + args.gap) _ (omega arith)) in (
      below_more (λ (k : ℕ). Exposes (verdict_in args.self.now.verdicts) (flag_in args.self.now.linked) k (k + args.gap) → ⊥)
          loop.start loop.invariant.0
          (λ h.
          elim c.if-both_contradict.branch [
            | then-both_contradict+else-is_clean w ↦ told-false w.is_clean.result w.is_clean.ensures w.if-is_clean.false h.clean
            | else-both_contradict w ↦ is_false both w.if-both_contradict.false h.clash
          ]),
      omega arith,
    )

pub returns : goal.returns
returns c = λ k l. c.loop-start.invariant.0 k (omega arith)
