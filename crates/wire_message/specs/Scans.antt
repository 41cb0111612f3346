-- What the scans of private functions answer: the place at which they stop.
use Rattle.std.specs.Prelude.{ℕ, ◌-◌, List}
use Rattle.laws.specs.Least.{least}
use Rattle.wire_message.specs.Frame.{not_above}

-- the first k at which word k + 1, of the n from `at`, is not above word k; n - 1 where they all rise
abbrev pub first_fall : List ℕ → ℕ → ℕ → ℕ
first_fall s at n = least (not_above s at) (n - 1)
