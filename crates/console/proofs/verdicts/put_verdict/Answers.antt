-- `console::verdicts::put_verdict` meets its contract, by what the cutter answered. Where it did not refuse, the pile
-- is good, and has sixteen records at most.
use Rattle.std.specs.Prelude.{Err, Result}
use mathlib.Core.Path.{◌≡◌, sym, ap}
use mathlib.Core.List.{List, ◌++◌}
use Prim.Native.Nat.{ℕ}
use native.Mathlib.Omega.{arith}
use borrow.Author.Tests.{eq-eqb, ne_eqb}
use Rattle.laws.specs.Ascii.{ascii}
use Rattle.refusal.specs.declared.Refusal.{Refusal}
use Rattle.console_lines.specs.Line.{refused_line}
use Rattle.pile_report.proofs.CutReports.{cut-18}
use Rattle.laws.specs.Written.{Puts}
use Rattle.console.specs.Text.{records_text, verdict_text}
use Rattle.laws.proofs.Written.{puts-more, puts-as}
use borrow.Author.Rules.{rules}
use Rattle.console.proofs.verdicts.put_verdict.Goals as goal

-- the text of an answer t, where it is known which that is
told : {t u : Result (ℕ × ℕ) Refusal} {o d : List ℕ} {e : ℕ} (pile answers : List ℕ) → t ≡ u → Puts o 0 (verdict_text pile answers u) d e
    → Puts o 0 (verdict_text pile answers t) d e
told pile answers h p = puts-as (ap (verdict_text pile answers) (sym h)) p

-- the text of a refusal: where it is 18, and where it is not
module _ (pile answers : List ℕ) (why : Refusal) where
  none-text : why.code ≡ 18
      → records_text pile answers ++ ascii "run none\n" ≡ verdict_text pile answers (Err why)
  none-text e = simp (eq-eqb why.code 18 e)

  refused-text : (why.code ≡ 18 → ⊥) → refused_line why.code ≡ verdict_text pile answers (Err why)
  refused-text e = simp (ne_eqb why.code 18 e)

pub returns-then-why-eq-NO_CONTRADICTION : goal.returns-then-why-eq-NO_CONTRADICTION
returns-then-why-eq-NO_CONTRADICTION c =
    let a = c.args in
    told a.pile.now a.answers.now c.in-Err.is
    (puts-as (none-text a.pile.now a.answers.now c.in-Err.why c.if-why-eq-NO_CONTRADICTION.true)
    (puts-more c.put_records-a-then-why-eq-NO_CONTRADICTION.ensures.puts c.put_word.ensures))

pub returns-in-Ok : goal.returns-in-Ok
returns-in-Ok c =
    let a = c.args in
    told a.pile.now a.answers.now c.in-Ok.is
    (puts-more c.put_records-a.ensures.puts c.put_run.ensures.puts)
