-- When two windows contradict (document 01, "Piles and reports"; draft 19, section 8.2): MIDP_i - RADI_i > MIDP_j +
-- RADI_j in whole numbers.
use Rattle.refusal.specs.declared.Refusal.{Refusal}
use Rattle.std.specs.Prelude.{Bool, false, ℕ, ◌+◌, ltb, Err, Ok, Result}
use Rattle.std.specs.Result.{is_ok}
use Rattle.check_response.specs.declared.Window.{Window}

-- what was said earlier contradicts what was said later, each by its MIDP and RADI. No more is handed in, so that MINT,
-- MAXT and the key play no part (request P9). The earlier RADI stands on the other side, so that nothing is subtracted:
-- `clash-whole` says that this is the comparison in whole numbers.
abbrev pub clash : ℕ → ℕ → ℕ → ℕ → Bool
clash midp radi later-midp later-radi = ltb (later-midp + later-radi + radi) midp

-- the window a, the earlier, contradicts b
abbrev pub windows_clash : Window → Window → Bool
windows_clash a b = clash a.midp a.radi b.midp b.radi

-- of a record: it is valid
abbrev pub valid : Result Window Refusal → Bool
valid v = is_ok v

-- of two records: both are valid, and their windows contradict
abbrev pub contradicting : Result Window Refusal → Result Window Refusal → Bool
contradicting (Ok a) (Ok b) = windows_clash a b
contradicting (Ok a) (Err why) = false
contradicting (Err why) v = false
