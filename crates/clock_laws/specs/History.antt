-- How a state comes about: from a start, by windows that are taken one by one.
use Rattle.std.specs.Prelude.{◌≡◌, Bool, false, ℕ, zero, suc, ◌<◌}
use Rattle.clock_spans.specs.declared.Kept.{Kept}
use Rattle.clock.specs.State.{start_of, take_code, taken_of, next_of}
use Rattle.clock.specs.declared.Clock.{Clock}
use Rattle.clock_laws.specs.Truth.{Within, IsTrue}

-- a window that is handed in, and of which server
pub record Heard : Type 0 where
  pub server : ℕ
  pub window : Kept

-- the state after the first n of them; refused ones leave it
unfoldable pub after : ℕ → (ℕ → Heard) → ℕ → Clock
after drift h zero = start_of drift
after drift h (suc n) = next_of (after drift h n) (taken_of (after drift h n) (h n).server (h n).window)

-- window k of these is taken, and not refused
abbrev pub IsTaken : ℕ → (ℕ → Heard) → ℕ → Type 0
IsTaken drift h k = (take_code (after drift h k) (h k).server (h k).window).code ≡ 0

-- what is asked of the world: the host's clock drifts by at most this, and each window that is taken of a server that
-- does not lie is true
pub record World (drift : ℕ) (h : ℕ → Heard) (n : ℕ) (T : ℕ → ℕ) (lies : ℕ → Bool) : Type 0 where
  pub within : Within drift T
  pub true-windows : (k : ℕ) → k < n → IsTaken drift h k → lies (h k).server ≡ false → IsTrue T (h k).window

-- the moment t is before the receipt of one of the first n that were taken
pub record HeardLater (drift : ℕ) (h : ℕ → Heard) (n t : ℕ) : Type 0 where
  pub place : ℕ
  pub below : place < n
  pub taken : IsTaken drift h place
  pub later : t < (h place).window.received
