-- A batch from its marks to what is left: what is known on the way, and that it is what the definitions say.
use mathlib.Core.Bool.{Bool, true, false, cond}
use mathlib.Core.List.{List}
use mathlib.Core.Path.{◌≡◌, refl, sym, ◌∙◌}
use Prim.Native.Nat.{ℕ, zero, suc, ◌+◌, ◌*◌, ◌≤◌, ◌<◌}
use native.Mathlib.Omega.{arith}
use lib.ListN.{length}
use lib.Pow.{pow_mono}
use Rattle.laws.specs.Least.{least}
use Rattle.laws.specs.Pasted.{fronted}
use Rattle.laws.specs.Upto.{upto}
use Rattle.tree.specs.Tree.{depth_of}
use Rattle.tree_build.specs.Leaves.{most}
use Rattle.server_batch.specs.Batch.{Batch, count, answered_at, answers, longest}
use Rattle.server_batch.specs.Picking.{how_many}
use Rattle.server_batch.specs.Steps.{Slots, Enough, mark_at, stay_at, enough_in, Held, CanServe}
use Rattle.server_batch.proofs.Batched.{many-same, stay-same, marks-held, marks-long}
use Rattle.server_batch.proofs.Depths.{depth-mono}
use Rattle.server_batch.proofs.Fits.{longest-same, longest-within, longest-enough}
use Rattle.server_batch.proofs.Meant.{stay-short}
use Rattle.server_batch.proofs.Picked.{many-most}

-- ---- The batch b, with a CERT of c bytes, and its marks

module _ (b : Batch) (c : ℕ) (o marks : List ℕ) (few : count b ≤ most) {rows out room : ℕ}
    (enough : Enough (count b) c (length b.packets) b.slot rows out room (length o))
    (made : marks ≡ fronted (upto (mark_at b) (count b)) o) where
  slots : Slots b
  slots = record { few = few; whole = enough.of-packets }

  pub held : Held b.packets b.slot b.lengths marks
  held = marks-held b o marks slots enough.of-lengths made

  pub same : (m i : ℕ) → i < count b → stay_at marks b.lengths m i ≡ answered_at b m i
  same = stay-same b o marks slots enough.of-lengths made

  pub long : count b ≤ length marks
  long = marks-long b o marks slots enough.of-lengths made

  pub counted : (m : ℕ) → how_many (stay_at marks b.lengths m) (count b) ≡ answers b m
  counted m = many-same (stay_at marks b.lengths m) (answered_at b m) (count b) (same m)

  -- code has the longest answer as m
  pub longest-is : {m : ℕ} → m ≡ 264 + 32 * least (enough_in marks b.lengths c) (depth_of (count b)) + c
      → m ≡ longest b c
  longest-is e = e ∙ longest-same b c marks same

  -- and how many leaves are put as k
  module _ {m k : ℕ} (is-longest : m ≡ longest b c) (put : k ≡ how_many (stay_at marks b.lengths m) (count b))
      (some : k ≡ 0 → ⊥) where
    is : k ≡ answers b m
    is = put ∙ counted m

    answers-few : answers b m ≤ count b
    answers-few = many-most (answered_at b m) (count b)

    -- no answer is longer
    not-longer : 264 + 32 * depth_of (answers b m) + c ≤ m
    not-longer = rw is-longest (longest-enough b c few)

    pub can-serve : CanServe (stay_at marks b.lengths m) k (count b) c m rows out room
    can-serve =
        let wide = depth-mono k (count b) (omega (arith, is, answers-few)) few in
        record {
          some = omega arith;
          all = put;
          few = omega (arith, is, answers-few);
          held = omega (arith, enough.of-rows, pow_mono wide);
          longest = rw is not-longer;
          enough = omega (arith, is-longest, longest-within b c, enough.of_room);
          slots = enough.of-out;
        }

-- where any packet stays, an answer is no longer than a packet may be
module _ (packets : List ℕ) (slot : ℕ) (lengths marks : List ℕ) (fine : Held packets slot lengths marks) (m : ℕ) where
  pub some-short : (n : ℕ) → n ≤ length lengths → 0 < how_many (stay_at marks lengths m) n → m ≤ 2000
  unfolding how_many
  some-short zero h g = absurd (omega arith)
  some-short (suc n) h g = by (stay_at marks lengths m n) refl g (some-short n (omega arith))
    where
      by : (t : Bool) → stay_at marks lengths m n ≡ t
          → 0 < cond t (suc (how_many (stay_at marks lengths m) n)) (how_many (stay_at marks lengths m) n)
          → (0 < how_many (stay_at marks lengths m) n → m ≤ 2000) → m ≤ 2000
      by true e l before = stay-short packets slot lengths marks fine n m (omega arith) (sym e) refl
      by false e l before = before l
