-- Each export's contract settles its result, and what it leaves in the lent memory: those of the clock.
use mathlib.Core.Path.{refl, sym, ap, ap₂, ◌∙◌}
use Rattle.laws.proofs.Once.{Settles}
use Prim.Native.Nat.{ℕ}
use Rattle.c_packets.specs.declared.clocking.Columns.{Columns}
use Rattle.capi.proofs.clocking.tb_clock_start_fields.Kinds as tb-clock-start-fields-kinds
use Rattle.capi.proofs.clocking.tb_clock_start_fields.Reads as tb-clock-start-fields-reads
use Rattle.capi.proofs.clocking.tb_clock_take_fields.Kinds as tb-clock-take-fields-kinds
use Rattle.capi.proofs.clocking.tb_clock_take_fields.Reads as tb-clock-take-fields-reads
use Rattle.capi.proofs.clocking.tb_clock_now_fields.Kinds as tb-clock-now-fields-kinds
use Rattle.capi.proofs.clocking.tb_clock_now_fields.Reads as tb-clock-now-fields-reads

pub tb-clock-start-fields-once : Settles tb-clock-start-fields-kinds.ps tb-clock-start-fields-kinds.r
    tb-clock-start-fields-reads.Learnt
tb-clock-start-fields-once κs a x u y v p q = (
  p.0 ∙ sym q.0,
  ap₂ (λ (d : ℕ) (c : Columns). (d, (c.low, (c.high, (c.maxt, (c.sent, (c.received, (tt, tt))))))))
      (p.1 ∙ sym q.1) (p.2 ∙ sym q.2),
)

pub tb-clock-take-fields-once : Settles tb-clock-take-fields-kinds.ps tb-clock-take-fields-kinds.r
    tb-clock-take-fields-reads.Learnt
tb-clock-take-fields-once κs a x u y v p q = (
  p.0 ∙ sym q.0,
  ap
      (λ (c : Columns).
      (tt, (c.low, (c.high, (c.maxt, (c.sent, (c.received, (tt, (tt, (tt, (tt, (tt, (tt, tt)))))))))))))
      (p.1 ∙ sym q.1),
)

pub tb-clock-now-fields-once : Settles tb-clock-now-fields-kinds.ps tb-clock-now-fields-kinds.r
    tb-clock-now-fields-reads.Learnt
tb-clock-now-fields-once κs a x u y v p q = (p ∙ sym q, refl)
