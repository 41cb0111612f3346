-- The contract of the export that answers a batch settles the result, and what is left in the lent buffers.
use Prim.Native.Nat.{ℕ}
use mathlib.Core.List.{List}
use mathlib.Core.Path.{◌≡◌, sym, ap, ◌∙◌}
use Rattle.laws.proofs.Once.{Settles}
use Rattle.capi.proofs.batching.tb_answer_batch.Kinds as batch-kinds
use Rattle.capi.proofs.batching.tb_answer_batch.Reads as batch-reads

pub tb-answer-batch-once : Settles batch-kinds.ps batch-kinds.r batch-reads.Learnt
tb-answer-batch-once κs a x u y v p q =
    let same = p.0 ∙ sym q.0 in
    let back = q.0 ∙ sym p.0 in
    let out-before = u.1.1.1.1.1.1.1.1.1.0 in
    let lengths-before = u.1.1.1.1.1.1.1.1.1.1.1.0 in
    let rows-after = v.1.1.1.1.1.1.1.1.0 in
    let out-after = v.1.1.1.1.1.1.1.1.1.0 in (
      same,
      ap (λ (rows : List ℕ). (tt, (tt, (tt, (tt, (tt, (tt, (tt, (tt, (rows, (out-before, (tt, (lengths-before, tt)))))))))))))
          (p.1.of-rows ∙ sym (rw back at q.1.of-rows))
          ∙ ap (λ (out : List ℕ). (tt, (tt, (tt, (tt, (tt, (tt, (tt, (tt, (rows-after, (out, (tt, (lengths-before, tt)))))))))))))
          (p.1.of-out ∙ sym (rw back at q.1.of-out))
          ∙ ap (λ (lengths : List ℕ). (tt, (tt, (tt, (tt, (tt, (tt, (tt, (tt, (rows-after, (out-after, (tt, (lengths, tt)))))))))))))
          (p.1.of-lengths ∙ sym (rw back at q.1.of-lengths)),
    )
