-- How many siblings are enough: by each way out of the test, by the marks and by the batch; the least such number, and
-- what is known of it.
use Rattle.std.specs.Prelude.{Option, Some, None, MatchOption, unwrap_or}
use mathlib.Core.Bool.{Bool, true, false}
use mathlib.Core.List.{List}
use mathlib.Core.Path.{◌≡◌, refl, sym, ap, ◌∙◌}
use Prim.Native.Nat.{ℕ, ◌+◌, ◌*◌, ◌≤◌, ◌<◌}
use native.Mathlib.Omega.{arith}
use borrow.Author.Tests.{le-leb, leb-true}
use lib.Dec.{leb}
use lib.ListN.{length}
use Rattle.laws.specs.Least.{least}
use Rattle.laws.proofs.Holds.{holds-exactly}
use Rattle.laws.proofs.Least.{least-le, least-same, least_first, least-found, least-all}
use Rattle.laws.proofs.Split.{split}
use Rattle.tree.specs.Tree.{depth_of}
use Rattle.tree_build.specs.Leaves.{most}
use Rattle.server_batch.specs.Batch.{Batch, count, answered_at, answers, enough_with, longest}
use Rattle.server_batch.specs.Picking.{how_many}
use Rattle.server_batch.specs.Steps.{stay_at, enough_in}
use Rattle.server_batch.proofs.Batched.{many-same}
use Rattle.server_batch.proofs.Depths.{depth-zero, depth-mono}
use Rattle.server_batch.proofs.Picked.{many-most}

-- ---- The test, by the marks

module _ (marks lengths : List ℕ) (c d : ℕ) {k : ℕ}
    (is : k ≡ how_many (stay_at marks lengths (264 + 32 * d + c)) (length lengths)) where
  pub enough-none : k ≡ 0 → true ≡ enough_in marks lengths c d
  unfolding enough_in
  enough-none z = sym (le-leb _ d (omega (arith, ap depth_of (sym is ∙ z) ∙ depth-zero)))

  pub enough-some : {e : ℕ} → e ≡ depth_of k → leb e d ≡ enough_in marks lengths c d
  unfolding enough_in
  enough-some q = ap (λ (n : ℕ). leb n d) (q ∙ ap depth_of is)

-- ---- The least number, by the marks and by the batch

module _ (b : Batch) (c : ℕ) where
  -- marks by which a packet stays exactly where it is answered
  pub longest-same : (marks : List ℕ)
      → ((m i : ℕ) → i < count b → stay_at marks b.lengths m i ≡ answered_at b m i)
      → 264 + 32 * least (enough_in marks b.lengths c) (depth_of (count b)) + c ≡ longest b c
  unfolding longest enough_in enough_with
  longest-same marks same =
      ap (λ (d : ℕ). 264 + 32 * d + c)
      (least-same (enough_in marks b.lengths c) (enough_with b c) (depth_of (count b))
      (λ d h.
      ap (λ (n : ℕ). leb (depth_of n) d) (many-same (stay_at marks b.lengths (264 + 32 * d + c)) _ (count b)
      (same (264 + 32 * d + c)))))

  abbrev siblings : ℕ
  siblings = least (enough_with b c) (depth_of (count b))

  -- an answer with that many has room, where one with a path over all packets has
  pub longest-within : longest b c ≤ 264 + 32 * depth_of (count b) + c
  unfolding longest
  longest-within = omega (arith, least-le (enough_with b c) (depth_of (count b)))

  -- and they are enough: the tree of those that are answered is no deeper
  enough-there : count b ≤ most → depth_of (answers b (264 + 32 * siblings + c)) ≤ siblings
  unfolding enough_with
  enough-there few =
      split (depth_of (count b)) siblings
      (λ g.
      let all = depth-mono _ (count b) (many-most (answered_at b (264 + 32 * siblings + c)) (count b)) few in
      omega (arith, all))
      (λ g. leb-true _ _ ((holds-exactly _).1 (least_first (enough_with b c) (depth_of (count b)) refl g).holds))

  pub longest-enough : count b ≤ most → 264 + 32 * depth_of (answers b (longest b c)) + c ≤ longest b c
  unfolding longest
  longest-enough few = omega (arith, enough-there few)

-- ---- The first that is enough, as `find` answers it

pub found-first : (p : ℕ → Bool) (n : ℕ) (r : Option ℕ)
    → MatchOption r ((k : ℕ) → 0 ≤ k → k < n → p k ≡ false)
    (λ i. (0 ≤ i) × (i < n) × (p i ≡ true) × ((k : ℕ) → 0 ≤ k → k < i → p k ≡ false))
    → unwrap_or r n ≡ least p n
found-first p n (Some i) (a, h, t, f) = least-found p i n (least-all p i (λ k g. f k (omega arith) g)) t h
found-first p n None f = sym (least-all p n (λ k g. f k (omega arith) g))
