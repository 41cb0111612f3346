-- Laws of the bit length: that it is the width less the leading zeros, and how it compares with a count of bits; and of
-- powers of two.
use Prim.Native.Nat.{ℕ, zero, suc, ◌+◌, ◌*◌, ◌-◌, ◌/◌, ◌^◌, ◌≤◌, ◌<◌}
use mathlib.Core.Path.{◌≡◌}
use native.Mathlib.Omega.{arith}
use native.Mathlib.Nat.{lt_of_not-le, le_of_suc-le-suc}
use lib.Pow.{pow_mono}
use lib.Count.{count_leading_zeros, leading_length}
use Rattle.laws.proofs.Split.{split}
use Rattle.tree.specs.Width.{Bits}

-- no shorter length holds x
shortest : (x m k : ℕ) → 2 ^ m ≤ 2 * x + 1 → x < 2 ^ k → m ≤ k
shortest x m k l h = le_of_suc-le-suc (lt_of_not-le (λ (g : suc k ≤ m). omega (arith, pow_mono g)))

pub bits_of : (x : ℕ) → x < 2 ^ 32 → Bits x (32 - count_leading_zeros 32 x)
bits_of x h =
    let t = leading_length 32 x h in
    let e : 32 - count_leading_zeros 32 x ≡ t.0 = omega (arith, t.1) in
    rw e (record { holds = t.2; least = λ k g. shortest x t.0 k t.3 g })

-- a number that needs at most n bits, and one that needs more
pub bits_fit : {x r : ℕ} (n : ℕ) → Bits x r → r ≤ n → x < 2 ^ n
bits_fit n b h = omega (arith, b.holds, pow_mono h)

pub bits-over : {x r : ℕ} (n : ℕ) → Bits x r → n < r → 2 ^ n ≤ x
bits-over {x} {r} n b h = split (2 ^ n) x (λ g. g) (λ g. absurd (omega (arith, b.least n g)))

-- a number needs fewer bits than it counts
pub below-pow : (n : ℕ) → n < 2 ^ n
below-pow zero = omega arith
below-pow (suc n) = omega (arith, below-pow n)

-- of two powers the smaller has the smaller exponent
pub exponent_lt : (i j : ℕ) → 2 ^ i < 2 ^ j → i < j
exponent_lt i j h = split j i (λ g. absurd (omega (arith, pow_mono g))) (λ g. g)

-- half of a power of two, which is not 1, is the one before it
pub pow-half : (l n : ℕ) → 0 < l → n ≡ 2 ^ l → (n ≡ 2 * (n / 2)) × (n / 2 ≡ 2 ^ (l - 1))
pow-half zero n p e = absurd (omega arith)
pow-half (suc l) n p e =
    let q : suc l - 1 ≡ l = omega arith in
    rw q (omega arith)
