-- Document 01's example 5 in print, letter by letter, with MINT 0 and MAXT 2000 in each DELE (request P9).
use Rattle.check_response.specs.declared.Window.{Window}
use Rattle.refusal.specs.declared.Refusal.{Refusal}
use Rattle.std.specs.Prelude.{Err, Ok, Result}
use mathlib.Core.Path.{◌≡◌, refl}
use mathlib.Core.List.{◌++◌}
use Prim.Native.Nat.{ℕ, zero, suc}
use Rattle.laws.specs.Ascii.{ascii}
use Rattle.refusal.specs.Refusal.{refusal, refusal_at}
use Rattle.check_response.specs.Window.{window_of}
use Rattle.console_lines.specs.Line.{decimal_in, spaced, two_spaced, labelled, window_line, place_text, refusal_line}
use Rattle.console_lines.specs.Line.{record_line, run_line, count_line}
use Rattle.console.specs.Text.{record_lines}

-- 1000±10, 1500±10, 1495±1, 1400±10
abbrev pub four : ℕ → Result Window Refusal
four zero = Ok (window_of 1000 10 0 2000)
four (suc zero) = Ok (window_of 1500 10 0 2000)
four (suc (suc zero)) = Ok (window_of 1495 1 0 2000)
four (suc (suc (suc k))) = Ok (window_of 1400 10 0 2000)

pub example5 : count_line 4 ++ record_lines four 4 ++ run_line 2 3
    ≡ ascii
    "records 4\n0 ok 990 1010 0 2000\n1 ok 1490 1510 0 2000\n2 ok 1494 1496 0 2000\n3 ok 1390 1410 0 2000\nrun 2 3\n"
unfolding decimal_in spaced two_spaced labelled window_line record_lines run_line
example5 = refl

-- a bad record's line
pub bad-record : record_line 1 (Err (refusal 13)) ≡ ascii "1 refused 13\n"
unfolding decimal_in spaced place_text refusal_line
bad-record = refl

-- and one whose code carries a place
pub placed-record : record_line 1 (Err (refusal_at 4 40)) ≡ ascii "1 refused 4 40\n"
unfolding decimal_in spaced place_text refusal_line
placed-record = refl
