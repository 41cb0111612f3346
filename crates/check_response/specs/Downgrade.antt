-- A server that talks a client down to an older version than both of them know (request P4; the two lists are those of
-- draft 19, 5.1.1 and 5.2.5).
use Rattle.std.specs.Prelude.{ℕ, ◌*◌, ◌/◌, ◌<◌, Bool, not, ◌&&◌, List, ltb, length}
use Rattle.laws.specs.Least.{somewhere}
use Rattle.laws.specs.Numbers.{le}
use Rattle.wire_packet.specs.Versions.{lacks_version, HoldsVersion}

-- as a sentence: there is a v that stands in VERS, stands in the request's VER, and is above the version that was
-- chosen
pub record Downgrade (vers ver : List ℕ) (chosen : ℕ) : Type 0 where
  pub v : ℕ
  pub listed : HoldsVersion vers v
  pub asked : HoldsVersion ver v
  pub above : chosen < v

-- the version v is above the one that was chosen, and stands in the request's VER
unfoldable pub asked_above : List ℕ → ℕ → ℕ → Bool
asked_above ver chosen v = ltb chosen v && not (lacks_version ver v)

-- as a test: this holds of some version of VERS. Neither list need rise for it.
unfoldable pub downgrades : List ℕ → List ℕ → ℕ → Bool
downgrades vers ver chosen = somewhere (λ k. asked_above ver chosen (le 4 vers (4 * k))) (length vers / 4)
