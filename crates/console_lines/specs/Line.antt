-- The lines that the program prints of a pile (document 01, "Examples"), as bytes.
use Rattle.check_response.specs.declared.Window.{Window}
use Rattle.refusal.specs.declared.Refusal.{Refusal}
use Rattle.std.specs.Prelude.{cond, List, [], ◌∷◌, ◌++◌, ℕ, zero, suc, ◌+◌, ◌/◌, ◌%◌, ltb, Err, Ok, Result}
use Rattle.laws.specs.Ascii.{ascii}
use Rattle.refusal.specs.Refusal.{carries}

-- n in decimal: its tens, where it has any, and then its last digit; of a longer number the last k digits
unfoldable pub decimal_in : ℕ → ℕ → List ℕ
decimal_in zero n = []
decimal_in (suc k) n = cond (ltb n 10) [] (decimal_in k (n / 10)) ++ ((48 + n % 10) ∷ [])

-- a number of 64 bits has 20 digits at most
abbrev pub decimal : ℕ → List ℕ
decimal n = decimal_in 20 n

-- a number behind a space
unfoldable pub spaced : ℕ → List ℕ
spaced n = ascii " " ++ decimal n

-- two numbers, each behind a space
unfoldable pub two_spaced : ℕ → ℕ → List ℕ
two_spaced x y = spaced x ++ spaced y

-- a word, a number and the end of the line
unfoldable pub labelled : List ℕ → ℕ → List ℕ
labelled word n = word ++ spaced n ++ ascii "\n"

-- `records 4`
abbrev pub count_line : ℕ → List ℕ
count_line n = labelled (ascii "records") n

-- `refused 15`
abbrev pub refused_line : ℕ → List ℕ
refused_line code = labelled (ascii "refused") code

-- `0 ok 990 1010 0 2000`: the ends of the window, and then MINT and MAXT (request P9)
unfoldable pub window_line : ℕ → ℕ → ℕ → ℕ → ℕ → List ℕ
window_line k low high mint maxt = decimal k ++ ascii " ok" ++ two_spaced low high ++ two_spaced mint maxt ++ ascii "\n"

-- the place that a code carries, behind a space; of a code that carries none nothing (request P8)
unfoldable pub place_text : ℕ → ℕ → List ℕ
place_text code place = cond (carries code) (spaced place) []

-- `1 refused 13`, and of a code with a place `1 refused 4 40`
unfoldable pub refusal_line : ℕ → ℕ → ℕ → List ℕ
refusal_line k code place =
    decimal k ++ ascii " refused" ++ spaced code ++ place_text code place ++ ascii "\n"

-- record k: its window, or its refusal
abbrev pub record_line : ℕ → Result Window Refusal → List ℕ
record_line k (Ok w) = window_line k w.low w.high w.mint w.maxt
record_line k (Err why) = refusal_line k why.code why.at

-- `run 2 3`
unfoldable pub run_line : ℕ → ℕ → List ℕ
run_line first last = ascii "run" ++ two_spaced first last ++ ascii "\n"
