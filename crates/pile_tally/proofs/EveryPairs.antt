-- The every-pair check says exactly whether there is a pair such as the report check names: `Contradiction`.
use Rattle.check_response.specs.declared.Window.{Window}
use Rattle.refusal.specs.declared.Refusal.{Refusal}
use Rattle.std.specs.Prelude.{Result}
use mathlib.Core.Path.{◌≡◌, ap₂}
use mathlib.Core.Bool.{Bool, true}
use mathlib.Core.Logic.{◌↔◌}
use Prim.Native.Nat.{ℕ, ◌<◌}
use native.Mathlib.Omega.{arith}
use Rattle.laws.specs.Least.{least}
use Rattle.laws.proofs.Holds.{holds-exactly}
use Rattle.laws.proofs.Least.{somewhere-at, somewhere-here, somewhere-same}
use Rattle.pile_runs.specs.Clash.{contradicting}
use Rattle.pile_runs.specs.Convict.{Contradiction}
use Rattle.pile_runs.specs.Spans.{SomePair}
use Rattle.pile_tally.specs.EveryPair.{some_before, every_pair}

-- it reads the first n records alone
pub every-pair-same : (v w : ℕ → Result Window Refusal) (n : ℕ) → ((k : ℕ) → k < n → v k ≡ w k) → every_pair v n ≡ every_pair w n
every-pair-same v w n h =
    somewhere-same (λ j. some_before v j (v j)) (λ j. some_before w j (w j)) n
    (λ j l. somewhere-same (λ i. contradicting (v i) (v j)) (λ i. contradicting (w i) (w j)) j
    (λ i m. ap₂ contradicting (h i (omega arith)) (h j l)))

module _ (v : ℕ → Result Window Refusal) (n : ℕ) where
  later : ℕ → Bool
  later j = some_before v j (v j)

  to-pair : every_pair v n ≡ true → SomePair (Contradiction v n)
  unfolding later
  to-pair e =
      let far = somewhere-at later n e in
      let j = least later n in
      let near = somewhere-at (λ i. contradicting (v i) (v j)) j far.1 in
      record {
        a = least (λ i. contradicting (v i) (v j)) j;
        b = j;
        holds = record { order = near.0; inside = far.0; holds = (holds-exactly _).0 near.1 };
      }

  -- yes, exactly where records i < j of the first n contradict
  pub every-pair-exactly : every_pair v n ≡ true ↔ SomePair (Contradiction v n)
  every-pair-exactly = (
    to-pair,
    λ s.
        somewhere-here (λ j. some_before v j (v j)) n s.b s.holds.inside
        (somewhere-here (λ i. contradicting (v i) (v s.b)) s.b s.a s.holds.order
        ((holds-exactly _).1 s.holds.holds)),
  )
