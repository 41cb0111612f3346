-- Each export's contract settles its result, and what it leaves in the lent memory: those of the measuring walk.
use Rattle.refusal.specs.declared.Refusal.{Refusal}
use Rattle.std.specs.Prelude.{Result}
use mathlib.Core.Path.{◌≡◌, sym, ap, ap₂, ◌∙◌}
use mathlib.Core.List.{List}
use Prim.Native.Nat.{ℕ}
use Rattle.laws.proofs.Once.{Settles}
use Rattle.c_evidence.specs.Walking.{tb_took}
use Rattle.walk.specs.Taking.{walk_after, pile_after}
use Rattle.walk.specs.declared.Walk.{Walk}
use Rattle.walk.specs.declared.Heard.{Heard}
use Rattle.walk.specs.declared.Said.{Said}
use Rattle.walk.proofs.Once.{said-once}
use Rattle.c_evidence.specs.declared.TbTook.{TbTook}
use Rattle.capi.specs.Walking.{Took}
use Rattle.capi.proofs.walking.tb_walk_start_fields.Kinds as tb-walk-start-fields-kinds
use Rattle.capi.proofs.walking.tb_walk_start_fields.Reads as tb-walk-start-fields-reads
use Rattle.capi.proofs.walking.tb_walk_ask_fields.Kinds as tb-walk-ask-fields-kinds
use Rattle.capi.proofs.walking.tb_walk_ask_fields.Reads as tb-walk-ask-fields-reads
use Rattle.capi.proofs.walking.tb_walk_take_fields.Kinds as tb-walk-take-fields-kinds
use Rattle.capi.proofs.walking.tb_walk_take_fields.Reads as tb-walk-take-fields-reads
use Rattle.capi.proofs.walking.tb_walk_take_signed_fields.Kinds as tb-walk-take-signed-fields-kinds
use Rattle.capi.proofs.walking.tb_walk_take_signed_fields.Reads as tb-walk-take-signed-fields-reads

pub tb-walk-start-fields-once : Settles tb-walk-start-fields-kinds.ps tb-walk-start-fields-kinds.r
    tb-walk-start-fields-reads.Learnt
tb-walk-start-fields-once κs a x u y v p q = (
  p.0 ∙ sym q.0,
  ap
      (λ (w : Walk).
      (w.keys, (w.count, (w.step, (w.nonce, (w.rand, (w.last, (w.most, (tt, (tt, (tt, (tt, tt))))))))))))
      (p.1 ∙ sym q.1),
)

pub tb-walk-ask-fields-once : Settles tb-walk-ask-fields-kinds.ps tb-walk-ask-fields-kinds.r
    tb-walk-ask-fields-reads.Learnt
tb-walk-ask-fields-once κs a x u y v p q = (
  p.0 ∙ sym q.0,
  ap (λ (out : List ℕ). (tt, (tt, (tt, (tt, (tt, (tt, (tt, (out, tt)))))))))
      (p.1 ∙ sym (rw (q.0 ∙ sym p.0) at q.1)),
)

-- any two answers to a call are the same, and so is what they leave
took-same : (w : Walk) (h : Heard) (x pile : List ℕ) {r s : TbTook} {v u : Walk} {b c : List ℕ}
    → Took w h x pile r v b → Took w h x pile s u c → (r ≡ s) × ((v ≡ u) × (b ≡ c))
took-same w h x pile p q =
    let same = said-once w h x pile p.answer q.answer p.right q.right in (
      p.same ∙ ap tb_took same ∙ sym q.same,
      (
        p.stepped ∙ ap (λ (t : Result Said Refusal). walk_after t w h x) same ∙ sym q.stepped,
        p.left ∙ ap (λ (t : Result Said Refusal). pile_after t w x pile) same ∙ sym q.left,
      ),
    )

pub tb-walk-take-fields-once : Settles tb-walk-take-fields-kinds.ps tb-walk-take-fields-kinds.r
    tb-walk-take-fields-reads.Learnt
tb-walk-take-fields-once κs a x u y v p q =
    let same = took-same _ _ _ _ p q in (
      same.0,
      ap₂
          (λ (w : Walk) (pile : List ℕ). (
            tt,
            (
              tt,
              (
                w.step,
                (
                  w.nonce,
                  (w.rand, (w.last, (tt, (tt, (tt, (tt, (tt, (tt, (tt, (pile, tt)))))))))),
                ),
              ),
            ),
          ))
          same.1.0 same.1.1,
    )

pub tb-walk-take-signed-fields-once : Settles tb-walk-take-signed-fields-kinds.ps tb-walk-take-signed-fields-kinds.r
    tb-walk-take-signed-fields-reads.Learnt
tb-walk-take-signed-fields-once κs a x u y v p q =
    let same = took-same _ _ _ _ p q in (
      same.0,
      ap₂
          (λ (w : Walk) (pile : List ℕ). (
            tt,
            (
              tt,
              (w.step, (w.nonce, (w.rand, (w.last, (tt, (tt, (tt, (tt, (tt, (pile, tt)))))))))),
            ),
          ))
          same.1.0 same.1.1,
    )
