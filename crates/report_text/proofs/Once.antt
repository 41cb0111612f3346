-- Each contract settles its result, and what is left in the lent buffer.
use Rattle.refusal.specs.declared.Refusal.{Refusal}
use Rattle.std.specs.Prelude.{Err, Ok, Result}
use Prim.Native.Nat.{ℕ}
use mathlib.Core.Path.{◌≡◌, sym, ap, ◌∙◌}
use mathlib.Core.List.{List}
use Rattle.laws.proofs.Once.{Settles}
use Rattle.report_read.specs.Entry.{entries_of}
use Rattle.report_read.specs.Read.{read_of}
use Rattle.report_write.proofs.Piles.{publishes-once}
use Rattle.report_text.specs.Forwarded.{ForwardsBy, pile_of}
use Rattle.report_text.proofs.Cuts.{cuts-once}
use Rattle.report_text.proofs.cutting.cut_signed_text.Kinds as cut-signed-text-kinds
use Rattle.report_text.proofs.cutting.cut_signed_text.Reads as cut-signed-text-reads
use Rattle.report_text.proofs.cutting.cut_text.Kinds as cut-text-kinds
use Rattle.report_text.proofs.cutting.cut_text.Reads as cut-text-reads
use Rattle.report_text.proofs.publishing.write_signed_report.Kinds as write-signed-report-kinds
use Rattle.report_text.proofs.publishing.write_signed_report.Reads as write-signed-report-reads

pub write-signed-report-once :
    Settles write-signed-report-kinds.ps write-signed-report-kinds.r write-signed-report-reads.Learnt
write-signed-report-once κs a x u y v p q =
    let same = publishes-once _ _ _ x y p.0 q.0 in (same, ap (λ (out : List ℕ). (tt, (out, tt))) (cc))

-- one answer only is right of a text
pub forwards-once : (x : Result ℕ Refusal) (pile answers : List ℕ) (room : ℕ) (r s : Result (ℕ × ℕ × ℕ) Refusal)
    → ForwardsBy x pile answers room r → ForwardsBy x pile answers room s → r ≡ s
forwards-once (Ok n) pile answers room r s p q = cuts-once pile answers room r s p q
forwards-once (Err why) pile answers room r s p q = p ∙ sym q

pub cut-text-once : Settles cut-text-kinds.ps cut-text-kinds.r cut-text-reads.Learnt
cut-text-once κs a x u y v p q =
    let same = forwards-once (read_of (entries_of a.0.now) 65536) (pile_of a.0.now) _ _ x y p.0 q.0 in
    (same, ap (λ (out : List ℕ). (tt, (tt, (out, tt)))) (cc))

pub cut-signed-text-once : Settles cut-signed-text-kinds.ps cut-signed-text-kinds.r cut-signed-text-reads.Learnt
cut-signed-text-once κs a x u y v p q =
    let same = forwards-once (read_of (entries_of a.0.now) 65536) (pile_of a.0.now) _ _ x y p.0 q.0 in
    (same, ap (λ (out : List ℕ). (tt, (out, tt))) (cc))
