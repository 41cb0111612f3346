-- The rounds with sixteen words of the schedule at a time, as private functions take them: word t stands at place
-- t % 16, and with round t word t + 16 takes that place.
use Rattle.std.specs.Prelude.{ℕ, ◌+◌, ◌%◌, List, slice_index, slice_set}
use Rattle.sha512_block.specs.declared.Regs.{Regs}
use Rattle.sha512_block.specs.Constants.{K}
use Rattle.sha512_block.specs.Rounds.{round}
use Rattle.sha512_block.specs.Words.{add64, σ0, σ1}

-- the working variables before round t, and the words t to t + 15
pub record Turning : Type 0 where
  pub regs : Regs
  pub words : List ℕ

abbrev pub turning : Regs → List ℕ → Turning
turning x w = record { regs = x; words = w }

-- σ1 (W (t + 14)) + W (t + 9) + σ0 (W (t + 1)) + W t, which is W (t + 16)
abbrev pub next_mixed : List ℕ → ℕ → ℕ
next_mixed w t =
    add64
    (add64 (add64 (σ1 (slice_index w ((t + 14) % 16))) (slice_index w ((t + 9) % 16))) (σ0 (slice_index w ((t + 1) % 16))))
    (slice_index w (t % 16))

-- word t + 16 takes the place of word t
abbrev pub word_step : ℕ → List ℕ → List ℕ
word_step t w = slice_set w (t % 16) (next_mixed w t)

-- round t, with the words w
abbrev pub round_step : List ℕ → ℕ → Regs → Regs
round_step w t s = round (slice_index K t) (slice_index w (t % 16)) s

-- round t with its word, and word t + 16 in the place of that
abbrev pub turn_step : ℕ → Turning → Turning
turn_step t p = turning (round_step p.words t p.regs) (word_step t p.words)
