-- Each check of a pile that needs no answers answers what the one with lent answers does, when it is given those of our
-- own Ed25519: of two results, one that the old operation's contract allows and one that the new one's does, for the
-- same piles and buffers, both are the same, and so is what is left in the buffers.
use mathlib.Core.Path.{◌≡◌, sym, ◌∙◌}
use denote.Triple.Clauses.{at_exit}
use borrow.Fn.Kinds.{ended_of}
use Rattle.pile_report.proofs.Says.{report-once}
use Rattle.pile_report.proofs.Runs.{takes-once}
use Rattle.pile.proofs.judge.Kinds as judge-kinds
use Rattle.pile.proofs.judge.Reads as judge-reads
use Rattle.pile_report.proofs.check_report.Kinds as report-kinds
use Rattle.pile_report.proofs.check_report.Reads as report-reads
use Rattle.pile_report.proofs.cut_run.Kinds as cut-kinds
use Rattle.pile_report.proofs.cut_run.Reads as cut-reads
use Rattle.pile_signed.specs.OwnAnswers.{own_answers}
use Rattle.pile_signed.proofs.judging.judge_signed.Kinds as judge-signed-kinds
use Rattle.pile_signed.proofs.judging.judge_signed.Reads as judge-signed-reads
use Rattle.pile_signed.proofs.reporting.check_signed_report.Kinds as report-signed-kinds
use Rattle.pile_signed.proofs.reporting.check_signed_report.Reads as report-signed-reads
use Rattle.pile_signed.proofs.cutting.cut_signed_run.Kinds as cut-signed-kinds
use Rattle.pile_signed.proofs.cutting.cut_signed_run.Reads as cut-signed-reads

-- `judge` and `judge_signed`
pub judge-signed-fed : (κs : _) (a : _) (x : _) (u : _) (ιs : _) (b : _) (y : _) (v : _)
    → judge-reads.Learnt κs a x (at_exit (ended_of _ judge-kinds.ps judge-kinds.r) κs a u)
    → judge-signed-reads.Learnt ιs b y (at_exit (ended_of _ judge-signed-kinds.ps judge-signed-kinds.r) ιs b v)
    → a.0.now ≡ b.0.now → a.1.0.now ≡ own_answers b.0.now → a.1.1.0 ≡ b.1.0 → x ≡ y
judge-signed-fed κs a x u ιs b y v p q e f k = (rw (e, f, k) at p.1) ∙ sym q.1

-- `check_report` and `check_signed_report`
pub report-signed-fed : (κs : _) (a : _) (x : _) (u : _) (ιs : _) (b : _) (y : _) (v : _)
    → report-reads.Learnt κs a x (at_exit (ended_of _ report-kinds.ps report-kinds.r) κs a u)
    → report-signed-reads.Learnt ιs b y (at_exit (ended_of _ report-signed-kinds.ps report-signed-kinds.r) ιs b v)
    → a.0.now ≡ b.0.now → a.1.0.now ≡ own_answers b.0.now → x ≡ y
report-signed-fed κs a x u ιs b y v p q e f =
    report-once b.0.now (own_answers b.0.now) x y (rw (e, f) at p) q

-- `cut_run` and `cut_signed_run`, and what each leaves in its buffer
pub cut-signed-fed : (κs : _) (a : _) (x : _) (u : _) (ιs : _) (b : _) (y : _) (v : _)
    → cut-reads.Learnt κs a x (at_exit (ended_of _ cut-kinds.ps cut-kinds.r) κs a u)
    → cut-signed-reads.Learnt ιs b y (at_exit (ended_of _ cut-signed-kinds.ps cut-signed-kinds.r) ιs b v)
    → a.0.now ≡ b.0.now → a.1.0.now ≡ own_answers b.0.now → a.1.1.0.now ≡ b.1.0.now
    → (x ≡ y) × (u.1.1.0 ≡ v.1.0)
cut-signed-fed κs a x u ιs b y v p q e f g =
    let same = takes-once b.0.now (own_answers b.0.now) _ x y (rw (e, f, g) at p.0) q.0 in
    (same, (rw (e, g, same) at p.1) ∙ sym q.1)
