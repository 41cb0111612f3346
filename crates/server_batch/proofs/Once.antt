-- The contract settles the result, and what is left in the lent buffers.
use mathlib.Core.List.{List}
use mathlib.Core.Path.{◌≡◌, sym, ap, ◌∙◌}
use Prim.Native.Nat.{ℕ}
use Rattle.laws.proofs.Once.{Settles}
use Rattle.server_batch.specs.Answering.{batch_number, LeftBy}
use Rattle.server_batch.specs.Batch.{Batch}
use Rattle.server_batch.proofs.batch.answer_batch.Kinds as batch-kinds
use Rattle.server_batch.proofs.batch.answer_batch.Reads as batch-reads

-- what is left is settled by the number
module _ (b : Batch) (cert seed : List ℕ) (midp radi room : ℕ) (rows out lengths : List ℕ) where
  left-once : {n m : ℕ} {r o l r' o' l' : List ℕ} → n ≡ m
      → LeftBy b cert seed midp radi room rows out lengths n r o l
      → LeftBy b cert seed midp radi room rows out lengths m r' o' l'
      → ◌≡◌ {A = List ℕ × List ℕ × List ℕ} (r, o, l) (r', o', l')
  left-once e p q =
      let p' = rw e at p in
      let of-rows = p'.of-rows ∙ sym q.of-rows in
      let of-out = p'.of-out ∙ sym q.of-out in
      let of-lengths = p'.of-lengths ∙ sym q.of-lengths in
      rw (of-rows, of-out, of-lengths)

pub answer-batch-once : Settles batch-kinds.ps batch-kinds.r batch-reads.Learnt
answer-batch-once κs a x u y v p q =
    let same = p.0 ∙ sym q.0 in
    let left = left-once _ _ _ _ _ _ _ _ _ (ap batch_number same) p.1 q.1 in (
      same,
      ap (λ (t : List ℕ × List ℕ × List ℕ).
          (tt, (tt, (tt, (tt, (tt, (tt, (tt, (tt, (t.0, (t.1, (tt, (t.2, tt))))))))))))) left,
    )
