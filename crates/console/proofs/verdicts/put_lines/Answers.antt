-- `console::verdicts::put_lines` meets its contract. The lines of the records that were passed are put, each of 108
-- bytes at most.
use Rattle.check_response.specs.declared.Window.{Window}
use Rattle.refusal.specs.declared.Refusal.{Refusal}
use Rattle.std.specs.Prelude.{Result}
use mathlib.Core.Path.{◌≡◌, ap}
use mathlib.Core.List.{◌++◌}
use Prim.Native.Nat.{ℕ, suc, ◌+◌, ◌*◌, ◌-◌, ◌≤◌}
use native.Mathlib.Omega.{arith}
use Rattle.pile.specs.declared.Judgement.{Judgement}
use Rattle.pile_report.specs.Report.{judged}
use Rattle.laws.specs.Written.{Puts}
use Rattle.console_lines.specs.Line.{record_line}
use Rattle.console.specs.Text.{record_lines}
use Rattle.laws.proofs.Written.{puts_none, puts-length, puts-more, puts-as}
use borrow.Author.Rules.{rules}
use Rattle.console.proofs.verdicts.put_lines.Goals as goal

-- one record more

lines_more : (v : ℕ → Result Window Refusal) (k : ℕ) → record_lines v k ++ record_line k (v k) ≡ record_lines v (k + 1)
unfolding record_lines
lines_more v k =
    let e : suc k ≡ k + 1 = omega arith in
    ap (record_lines v) e

pub loop-k-init : goal.loop-k-init
unfolding record_lines
loop-k-init c = (omega arith, omega arith, puts_none _ _ (omega arith))

pub put_record-end-requires : goal.put_record-end-requires
put_record-end-requires c =
    let i = c.loop-k.invariant in
    omega (arith, i.1, puts-length i.2)

pub loop-k-preserved : goal.loop-k-preserved
loop-k-preserved c =
    let i = c.loop-k.invariant in
    let k = c.loop-k.k in
    let j = c.judge-j.ensures.value in
    let p = c.put_record-end.ensures in (
      omega arith,
      omega (arith, i.1, p.upper_bound),
      puts-as (lines_more _ k)
          (puts-more i.2 (puts-as (ap (λ (r : Judgement). record_line k r.verdict) j) p.puts)),
    )

pub returns : goal.returns
returns c =
    let i = c.loop-k.invariant in
    let a = c.args in
    let all : c.loop-k.k ≡ a.n = omega (arith, i.0) in record { puts = puts-as (ap (record_lines (judged a.pile.now a.answers.now)) all) i.2; upper_bound = omega (arith, i.0, i.1) }

pub shape_of-out : goal.shape_of-out
shape_of-out c = puts-length c.loop-k.invariant.2
