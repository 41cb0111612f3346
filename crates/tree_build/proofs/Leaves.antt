-- Laws of the counts: how many leaves the lent bytes are, and of how many they are the rows.
use mathlib.Core.Path.{◌≡◌, refl}
use mathlib.Core.Bool.{Bool, true, false, cond, ◌&&◌}
use Prim.Native.Nat.{ℕ, ◌*◌, ◌/◌, ◌%◌, ◌≤◌, ◌<◌}
use native.Mathlib.Omega.{arith}
use lib.Dec.{eqb, leb}
use borrow.Author.Tests.{le-leb, leb-true, eqb-true}
use Rattle.tree.specs.Tree.{depth_of}
use Rattle.tree_build.specs.AllRows.{nodes_of}
use Rattle.tree_build.specs.Leaves.{most, count_of, held_of}

-- a count of leaves is within the most, and within the bytes
pub count-bounds : (size : ℕ) → (count_of size ≤ most) × (32 * count_of size ≤ size)
unfolding count_of
count-bounds size = by (eqb (size % 32) 0) (leb (size / 32) most) refl
  where
    by : (a b : Bool) → leb (size / 32) most ≡ b
        → (cond (a && b) (size / 32) 0 ≤ most) × (32 * cond (a && b) (size / 32) 0 ≤ size)
    by true true e = let h : size / 32 ≤ most = leb-true (size / 32) most e in omega arith
    by true false e = omega arith
    by false b e = omega arith

-- where there are some, the bytes are theirs
pub count-whole : (size : ℕ) {n : ℕ} → n ≡ count_of size → (n ≡ 0 → ⊥) → size ≡ 32 * n
unfolding count_of
count-whole size {n} = by (eqb (size % 32) 0) (leb (size / 32) most) refl
  where
    by : (a b : Bool) → eqb (size % 32) 0 ≡ a → n ≡ cond (a && b) (size / 32) 0 → (n ≡ 0 → ⊥) → size ≡ 32 * n
    by true true p e some = omega (arith, eqb-true (size % 32) 0 p)
    by true false p e some = absurd (some e)
    by false b p e some = absurd (some e)

-- rows that are long enough hold what is asked for
pub held_all : (size n : ℕ) → n ≤ most → 32 * nodes_of (depth_of n) ≤ size → held_of size n ≡ n
unfolding held_of
held_all size n h k = simp (le-leb _ _ h, le-leb _ _ k)

-- and none where there are none
pub held_none : (size : ℕ) → held_of size 0 ≡ 0
unfolding held_of
held_none size = by (leb 0 most && leb (32 * nodes_of (depth_of 0)) size)
  where
    by : (b : Bool) → ◌≡◌ {A = ℕ} (cond b 0 0) 0
    by true = refl
    by false = refl

-- where n are held, and one of them at a place, they are what was asked for, and their rows are there
module _ (size count : ℕ) {n place : ℕ} (e : n ≡ held_of size count) (there : place < n) where
  held : (n ≡ count) × (32 * nodes_of (depth_of count) ≤ size)
  unfolding held_of
  held = by (leb count most) (leb (32 * nodes_of (depth_of count)) size) refl e
    where
      by : (a b : Bool) → leb (32 * nodes_of (depth_of count)) size ≡ b → n ≡ cond (a && b) count 0
          → (n ≡ count) × (32 * nodes_of (depth_of count) ≤ size)
      by true true t q = (q, leb-true _ _ t)
      by true false t q = absurd (omega arith)
      by false b t q = absurd (omega arith)

  pub held-is : n ≡ count
  held-is = held.0

  pub held_rows : {d : ℕ} → d ≡ depth_of n → 32 * nodes_of d ≤ size
  held_rows deep = rw (deep, held-is) held.1
