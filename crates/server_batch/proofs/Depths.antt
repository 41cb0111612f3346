-- The depth of a tree grows with its leaves.
use mathlib.Core.Path.{◌≡◌, refl, subst}
use Prim.Native.Nat.{ℕ, zero, suc, ◌*◌, ◌-◌, ◌^◌, ◌≤◌, ◌<◌}
use native.Mathlib.Omega.{arith}
use lib.Pow.{pow_mono}
use Rattle.laws.specs.Least.{least}
use Rattle.laws.proofs.Split.{split}
use Rattle.tree.specs.Tree.{depth_of}
use Rattle.tree.proofs.Width.{bits_of}
use Rattle.tree_build.specs.Leaves.{most}
use Rattle.tree_build.proofs.Depths.{depth-of, depth-holds}

pub depth-zero : depth_of 0 ≡ 0
unfolding depth_of least
depth-zero = refl

pub depth-mono : (m n : ℕ) → m ≤ n → n ≤ most → depth_of m ≤ depth_of n
depth-mono zero n h g = omega (arith, depth-zero)
depth-mono (suc m) n h g =
    let b = bits_of m (omega arith) in
    let e : m ≡ suc m - 1 = omega arith in
    subst (λ (d : ℕ). d ≤ depth_of n) (depth-of b e (omega arith))
    (b.least (depth_of n) (omega (arith, depth-holds n (omega arith) g)))

-- A tree whose rows have room is no deeper than 64.
pub depth-fits : (d r : ℕ) → 32 * (2 ^ suc d - 1) ≤ r → r < 2 ^ 64 → d ≤ 64
depth-fits d r h g =
    split d 64 (λ e. e)
    (λ e.
    let more : 2 ^ 65 ≤ 2 ^ suc d = pow_mono {i = 65} (omega arith) in
    absurd (omega (arith, h, g, more)))
