-- The text is settled: the cutter's answer is, and so is what is put for it.
use Rattle.refusal.specs.declared.Refusal.{Refusal}
use Rattle.std.specs.Prelude.{Result}
use mathlib.Core.Path.{◌≡◌, refl, sym, ap, ◌∙◌}
use mathlib.Core.List.{List}
use Prim.Native.Nat.{ℕ}
use Rattle.laws.proofs.Once.{Settles}
use Rattle.pile_report.proofs.Runs.{takes-once}
use Rattle.pile_report.specs.Taking.{Takes}
use Rattle.console.specs.Text.{verdict_text}
use Rattle.console.proofs.answering.put_answers.Kinds as put-answers-kinds
use Rattle.console.proofs.answering.put_answers.Reads as put-answers-reads
use Rattle.console.proofs.verdicts.taken_from.Kinds as taken-from-kinds
use Rattle.console.proofs.verdicts.taken_from.Reads as taken-from-reads
use Rattle.console.proofs.verdicts.put_verdict.Kinds as put-verdict-kinds
use Rattle.console.proofs.verdicts.put_verdict.Reads as put-verdict-reads

pub taken-from-once : Settles taken-from-kinds.ps taken-from-kinds.r taken-from-reads.Learnt
taken-from-once κs a x u y v p q = (takes-once a.0.now a.1.0.now 65536 x y p q, refl)

pub put-verdict-once : Settles put-verdict-kinds.ps put-verdict-kinds.r put-verdict-reads.Learnt
put-verdict-once κs a x u y v p q =
    (p.ends ∙ sym q.ends, ap (λ (out : List ℕ). (tt, (tt, (tt, (out, tt))))) (p.is ∙ sym q.is))

-- so a pile and its answers have one text
pub text-once : (pile answers : List ℕ) (t u : Result (ℕ × ℕ) Refusal) → Takes pile answers 65536 t → Takes pile answers 65536 u
    → verdict_text pile answers t ≡ verdict_text pile answers u
text-once pile answers t u p q = ap (verdict_text pile answers) (takes-once pile answers 65536 t u p q)

-- and so are the answers of a pile that comes alone
pub put-answers-once : Settles put-answers-kinds.ps put-answers-kinds.r put-answers-reads.Learnt
put-answers-once κs a x u y v p q =
    (p.0.1 ∙ sym q.0.1, ap (λ (out : List ℕ). (tt, (out, tt))) (p.1 ∙ sym q.1))
