-- What a host finds when the call is done: the answer to each packet that is answered at the front of its own slot, and
-- its length among the lengths; and 0 there for a packet that is not.
use mathlib.Core.Bool.{Bool, true, false, cond}
use mathlib.Core.List.{List, ◌++◌}
use mathlib.Core.Path.{◌≡◌, refl, sym, ap, ◌∙◌}
use Prim.Native.Nat.{ℕ, zero, suc, ◌+◌, ◌*◌, ◌≤◌, ◌<◌}
use native.Mathlib.Nat.{mul-le-mul_left, mul-suc}
use native.Mathlib.Omega.{arith}
use lib.ListN.{length, take, drop, get_or, get_or-append}
use lib.Seq.{length-take-le, take-append-le, take-take, take_at, drop_at}
use Rattle.laws.specs.Pasted.{pasted}
use Rattle.laws.specs.Upto.{upto}
use Rattle.laws.proofs.Pasted.{length-pasted}
use Rattle.laws.proofs.Pieces.{drop-take}
use Rattle.laws.proofs.Split.{split}
use Rattle.laws.proofs.Upto.{upto-length, upto-at}
use Rattle.server_batch.specs.Answering.{out_after, out_left, lengths_left, LeftBy}
use Rattle.server_batch.specs.Batch.{count}
use Rattle.server_batch_laws.specs.Call.{Call, Taken, answered, answer}
use Rattle.server_batch_laws.specs.Claims.{Finds}
use Rattle.server_batch_laws.proofs.Answers.{answer-fits}
use Rattle.server_batch_laws.proofs.Taken.{lent, kept, there}

-- ---- pieces of a list

-- the piece stands where it was put,
pasted-here : (d s : List ℕ) (at : ℕ) → at ≤ length d → take (length s) (drop at (pasted d at s)) ≡ s
unfolding pasted
pasted-here d s at h =
    ap (take (length s)) (drop_at (take at d) (s ++ drop (at + length s) d) at (length-take-le at d h))
    ∙ take_at s (drop (at + length s) d) (length s) refl

-- and what stands before it stays
pasted-before : (d s : List ℕ) (at a n : ℕ) → at ≤ length d → a + n ≤ at
    → take n (drop a (pasted d at s)) ≡ take n (drop a d)
unfolding pasted
pasted-before d s at a n h before =
    let front : take (a + n) (pasted d at s) ≡ take (a + n) d =
    take-append-le (a + n) (take at d) (s ++ drop (at + length s) d) (omega (arith, length-take-le at d h))
    ∙ take-take (a + n) at d before in
    sym (drop-take a n (pasted d at s)) ∙ ap (drop a) front ∙ drop-take a n d

-- ---- slots of `room` bytes, each with room for its answer

module _ (holds : ℕ → Bool) (answer : ℕ → List ℕ) (room : ℕ) (out : List ℕ)
    (fits : (i : ℕ) → holds i ≡ true → length (answer i) ≤ room) where
  -- what is put into slots is as long as before
  after-long : (n : ℕ) → room * n ≤ length out → length (out_after holds answer room out n) ≡ length out
  unfolding out_after
  after-long zero h = refl
  after-long (suc n) h = by (holds n) refl (after-long n (omega (arith, mul-suc room n)))
    where
      by : (t : Bool) → holds n ≡ t → length (out_after holds answer room out n) ≡ length out
          → length
          (cond t (pasted (out_after holds answer room out n) (room * n) (answer n)) (out_after holds answer room out n))
          ≡ length out
      by true q e =
          length-pasted (out_after holds answer room out n) (answer n) (room * n)
          (omega (arith, e, fits n q, mul-suc room n))
          ∙ e
      by false q e = e

  -- the answer stands at the front of its slot
  pub slot-found : (i : ℕ) → holds i ≡ true → (n : ℕ) → i < n → room * n ≤ length out
      → take (length (answer i)) (drop (room * i) (out_after holds answer room out n)) ≡ answer i
  unfolding out_after
  slot-found i t zero g h = absurd (omega arith)
  slot-found i t (suc n) g h =
      let was = out_after holds answer room out n in
      let some : room * n ≤ length out = omega (arith, mul-suc room n) in
      let inside : room * n ≤ length was = omega (arith, after-long n some) in
      split n i
      (λ last.
      let e : i ≡ n = omega arith in
      let u : holds n ≡ true = ap holds (sym e) ∙ t in
      rw (u, e) (pasted-here was (answer n) (room * n) inside))
      (λ less.
      let before : room * i + length (answer i) ≤ room * n =
      omega (arith, fits i t, mul-suc room i, mul-le-mul_left room less) in
      earlier (holds n) n inside before (slot-found i t n less some))
    where
      earlier : (s : Bool) (n : ℕ) → room * n ≤ length (out_after holds answer room out n)
          → room * i + length (answer i) ≤ room * n
          → take (length (answer i)) (drop (room * i) (out_after holds answer room out n)) ≡ answer i
          → take (length (answer i))
          (drop (room * i)
          (cond s (pasted (out_after holds answer room out n) (room * n) (answer n)) (out_after holds answer room out n)))
          ≡ answer i
      earlier true n inside before e =
          pasted-before (out_after holds answer room out n) (answer n) (room * n) (room * i) (length (answer i)) inside
          before
          ∙ e
      earlier false n inside before e = e

-- ---- what the call leaves, where it refuses nothing

module _ (c : Call) (t : Taken c) {rows out lengths rows-after out-after lengths-after : List ℕ}
    (left : LeftBy c.batch c.cert c.seed c.midp c.radi c.room rows out lengths 0 rows-after out-after
    lengths-after) where
  -- entry i of the lengths
  length_at : (i : ℕ) → i < count c.batch → get_or lengths-after i 0 ≡ cond (answered c i) (length (answer c i)) 0
  unfolding lengths_left
  length_at i h =
      let size : ℕ → ℕ = λ j. cond (answered c j) (length (answer c j)) 0 in
      let long = upto-length size (count c.batch) in
      ap (λ (l : List ℕ). get_or l i 0) left.of-lengths
      ∙ get_or-append (upto size (count c.batch)) _ 0 i (omega (arith, long))
      ∙ upto-at size (count c.batch) i 0 h

  -- The answer to a packet is found in its own slot,
  pub answer-found : length out ≡ c.out → (i : ℕ) → answered c i ≡ true
      → Finds (answer c i) i c.room out-after lengths-after
  unfolding out_left
  answer-found is i holds =
      let inside = there c i (kept c i holds) in
      let size : get_or lengths-after i 0 ≡ length (answer c i) = length_at i inside ∙ rw holds in
      let slots : c.room * count c.batch ≤ length out = omega (arith, (lent c t).slots) in
      let bytes =
      slot-found (answered c) (answer c) c.room out (answer-fits c t) i holds (count c.batch) inside slots in
      record { size = size; bytes = rw (size, left.of-out) bytes }

  -- and to a packet that is not answered none is.
  pub none_found : (i : ℕ) → i < count c.batch → answered c i ≡ false → get_or lengths-after i 0 ≡ 0
  none_found i h fails = length_at i h ∙ rw fails
