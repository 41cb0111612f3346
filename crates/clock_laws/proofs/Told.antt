-- What the clock claims: of every state that comes from a start by windows that are taken one by one, of every true
-- time and of every set of liars with which the windows can have come about.
use Rattle.std.specs.Prelude.{Ok}
use mathlib.Core.Path.{◌≡◌}
use mathlib.Core.Bool.{Bool, true, false}
use Prim.Native.Nat.{ℕ, ◌+◌, ◌≤◌, ◌<◌}
use Rattle.clock.specs.Used.{too_early}
use Rattle.clock.specs.Answer.{answer_of, number}
use Rattle.clock.specs.Meaning.{count_then}
use Rattle.clock.specs.declared.Clock.{Clock}
use Rattle.clock.specs.declared.Time.{Time}
use Rattle.clock_laws.specs.Truth.{liars}
use Rattle.clock_laws.specs.History.{Heard, after, World}
use Rattle.clock_laws.specs.Meaning.{Right, Unstretched}
use Rattle.clock_laws.proofs.Taking.{story}
use Rattle.clock_laws.proofs.Stories.{bit, story-no-agreement, story-never-refused, story-right, story-suspects-lie}
use Rattle.clock_laws.proofs.Stories.{story-unstretched}

-- ---- of every state that comes from a start

module _ {drift : ℕ} {h : ℕ → Heard} {n : ℕ} {T : ℕ → ℕ} {lies : ℕ → Bool} (w : World drift h n T lies) (t f : ℕ) where
  abbrev c : Clock
  c = after drift h n

  -- (3) it is refused for want of agreement only where more than f of those that are counted lie
  pub no-agreement : number (answer_of c t f) ≡ 34 → f < liars c t lies
  no-agreement = story-no-agreement (story w) t f

  module _ (few : liars c t lies ≤ f) where
    -- (5) where no more lie, and more than f are counted, it is not refused
    pub never-refused : too_early c t ≡ false → f < count_then c t → number (answer_of c t f) ≡ 0
    never-refused = story-never-refused (story w) t f few

    module _ (a : Time) (e : answer_of c t f ≡ Ok a) where
      -- (1) the true time is between the two ends
      pub right : Right (T t) a
      right = story-right (story w) t f few a e

      -- (2) and where f is below half of the servers that are counted, no liar has pulled an end further from it than
      -- an honest server's span is wide
      pub unstretched : f + f < a.counted → Unstretched c t T lies a
      unstretched = story-unstretched (story w) t f few a e

      -- (4) every suspect lies
      pub suspects-lie : (j : ℕ) → j < 8 → bit a.suspects j ≡ 1 → lies j ≡ true
      suspects-lie = story-suspects-lie (story w) t f few a e
