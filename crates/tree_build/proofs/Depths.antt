-- The depth of a batch, by the bits that its last place needs.
use mathlib.Core.Path.{◌≡◌, refl, subst}
use Prim.Native.Nat.{ℕ, ◌-◌, ◌^◌, ◌≤◌, ◌<◌}
use native.Mathlib.Omega.{arith}
use lib.Dec.{leb}
use lib.Pow.{pow_mono}
use borrow.Author.Tests.{le-leb, lt-leb}
use Rattle.laws.specs.Least.{least}
use Rattle.tree.specs.Width.{Bits}
use Rattle.laws.proofs.Least.{least-all, least-found}
use Rattle.tree.proofs.Width.{bits_of, bits-over, below-pow}
use Rattle.tree.specs.Tree.{depth_of}
use Rattle.tree_build.specs.Leaves.{most}

full : 2 ^ depth_of most ≡ most
unfolding depth_of least
full = refl

-- the last place of n, which code has as x, needs d bits
module _ {n x d : ℕ} (b : Bits x d) (last : x ≡ n - 1) where
  pub depth-of : 0 < n → d ≡ depth_of n
  unfolding depth_of
  depth-of p =
      let fits : n ≤ 2 ^ d = omega (arith, b.holds) in
      let below : d < n = omega (arith, b.least x (below-pow x)) in
      least-found (λ e. leb n (2 ^ e)) d n
      (least-all (λ e. leb n (2 ^ e)) d (λ e h. lt-leb n (2 ^ e) (omega (arith, bits-over e b h))))
      (le-leb n (2 ^ d) fits) below

  -- where n are not too many, their tree is not too large. That `most` is a power of two is used only here.
  pub deep-most : n ≤ most → 2 ^ d ≤ most
  deep-most h = omega (arith, full, pow_mono (b.least (depth_of most) (omega (arith, full))))

-- a tree has place for its leaves
pub depth-holds : (n : ℕ) → 0 < n → n ≤ most → n ≤ 2 ^ depth_of n
depth-holds n p h =
    let b = bits_of (n - 1) (omega arith) in
    subst (λ (d : ℕ). n ≤ 2 ^ d) (depth-of b refl p) (omega (arith, b.holds))

-- a path of it is not too long to be checked
pub depth-short : (n : ℕ) → 0 < n → n ≤ most → depth_of n ≤ 32
depth-short n p h =
    let b = bits_of (n - 1) (omega arith) in
    subst (λ (d : ℕ). d ≤ 32) (depth-of b refl p) (b.least 32 (omega arith))
