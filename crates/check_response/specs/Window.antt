-- The window of a valid response (document 01, "When a response is valid"), and with it the times for which its key is
-- trusted (request P9; draft 19, 5.2.6).
use Rattle.std.specs.Prelude.{ℕ, ◌+◌, ◌-◌, ◌^◌, min}
use Rattle.check_response.specs.declared.Window.{Window}

-- max(0, MIDP - RADI): a difference of natural numbers stops at 0
abbrev pub low_of : ℕ → ℕ → ℕ
low_of midp radi = midp - radi

-- min(2^64 - 1, MIDP + RADI)
abbrev pub high_of : ℕ → ℕ → ℕ
high_of midp radi = min (2 ^ 64 - 1) (midp + radi)

-- MINT and MAXT stand as they are
abbrev pub window_of : ℕ → ℕ → ℕ → ℕ → Window
window_of midp radi mint maxt =
    record {
      midp = midp;
      radi = radi;
      low = low_of midp radi;
      high = high_of midp radi;
      mint = mint;
      maxt = maxt;
    }
