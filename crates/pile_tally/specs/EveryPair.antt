-- The every-pair check: whether two of many windows contradict, by trying every two. It is what the report check's
-- `Contradiction` says of records (`every-pair-exactly`).
use Rattle.std.specs.Prelude.{Bool, not, List, [], ◌∷◌, ℕ, length, get_or, Ok, Result}
use Rattle.laws.specs.Least.{somewhere}
use Rattle.refusal.specs.Refusal.{first, when}
use Rattle.refusal.specs.declared.Refusal.{Refusal}
use Rattle.check_response.specs.Window.{window_of}
use Rattle.check_response.specs.declared.Window.{Window}
use Rattle.pile.specs.Pile.{records_in, pile_bad}
use Rattle.pile_runs.specs.Clash.{contradicting}
use Rattle.pile_report.specs.Report.{judged}

-- ---- of records with the verdicts v

-- one of the first n contradicts the record with the verdict b, which comes after them
abbrev pub some_before : (ℕ → Result Window Refusal) → ℕ → Result Window Refusal → Bool
some_before v n b = somewhere (λ i. contradicting (v i) b) n

-- two of the first n contradict, record i before record j
abbrev pub every_pair : (ℕ → Result Window Refusal) → ℕ → Bool
every_pair v n = somewhere (λ j. some_before v j (v j)) n

-- ---- of a list of windows, of any length: as of records that are all valid

-- nothing is read past the end
abbrev pub said_in : List Window → ℕ → Result Window Refusal
said_in ws k = Ok (get_or ws k (window_of 0 0 0 0))

-- one of them contradicts the window w, which comes after them
abbrev pub an_earlier : List Window → Window → Bool
an_earlier ws w = some_before (said_in ws) (length ws) (Ok w)

-- two of them contradict, the earlier the later
abbrev pub every_pair_in : List Window → Bool
every_pair_in ws = every_pair (said_in ws) (length ws)

-- ---- of a pile

-- 15, of the pile and its answers; 18, where no two of its valid records contradict. Links and rands play no part.
unfoldable pub contradiction_code : List ℕ → List ℕ → Refusal
contradiction_code pile answers =
    first
    (when (pile_bad pile answers) 15
    ∷ when (not (every_pair (judged pile answers) (records_in pile))) 18
    ∷ [])
