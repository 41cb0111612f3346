-- Whose records a walk leaves (request P10; draft 19, 8.2): those of all servers in their order, and of all of them
-- once more.
use Rattle.std.specs.Prelude.{ℕ, ◌+◌, ◌*◌, ◌<◌, ◌≡◌, List, ◌⊎◌}
use Rattle.pile.specs.Pile.{records_in, record_at, key_in}
use Rattle.walk.specs.State.{key_at}

-- the pile of n servers with these keys
pub record TwoRounds (keys : List ℕ) (n : ℕ) (pile : List ℕ) : Type 0 where
  pub two-each : records_in pile ≡ 2 * n
  pub first : (k : ℕ) → k < n → key_in (record_at pile k) ≡ key_at keys k
  pub second : (k : ℕ) → k < n → key_in (record_at pile (k + n)) ≡ key_at keys k
  -- each key stands in these two records and in no other
  pub no_other : (k m : ℕ) → k < n → m < 2 * n → key_in (record_at pile m) ≡ key_at keys k → (m ≡ k) ⊎ (m ≡ k + n)
