-- At how many places a test holds, and at which.
use Rattle.std.specs.Prelude.{Bool, cond, ℕ, zero, suc, ◌+◌, ◌^◌}

-- at how many places below n
unfoldable pub many : (ℕ → Bool) → ℕ → ℕ
many p zero = 0
many p (suc n) = many p n + cond (p n) 1 0

-- at which of them: a set in which place k counts 2^k
unfoldable pub set_of : (ℕ → Bool) → ℕ → ℕ
set_of p zero = 0
set_of p (suc n) = set_of p n + cond (p n) (2 ^ n) 0
