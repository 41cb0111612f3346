-- The state: a bound on the drift of the host's own clock, and the two newest windows of each of 8 servers. Every
-- definition here is total: the caller may hand in any state.
use Rattle.std.specs.Prelude.{cond, List, [], ◌∷◌, ℕ, ◌+◌, ◌*◌, eqb, ltb, get_or, set, replicate, Err, Ok, Result}
use Rattle.refusal.specs.Refusal.{first, when}
use Rattle.refusal.specs.declared.Refusal.{Refusal}
use Rattle.clock_spans.specs.declared.Kept.{Kept}
use Rattle.clock.specs.declared.Clock.{Clock}

-- ---- what is kept

-- no window: every number is 0
abbrev pub no_window : Kept
no_window = record { low = 0; high = 0; maxt = 0; sent = 0; received = 0 }

-- window i. Nothing is read past the end of an array; there this says what the kit's own definition of a read says.
abbrev pub kept_in : Clock → ℕ → Kept
kept_in c i = get_or c.kept i no_window

-- the newest window of server s, and the one before it
abbrev pub newest : Clock → ℕ → Kept
newest c s = kept_in c (2 * s)

abbrev pub older : Clock → ℕ → Kept
older c s = kept_in c (2 * s + 1)

-- ---- a start

-- 32: a drift of a million or more
unfoldable pub start_code : ℕ → Refusal
start_code drift = first (when (ltb 999999 drift) 32 ∷ [])

-- it keeps no window
abbrev pub start_of : ℕ → Clock
start_of drift = record { drift = drift; kept = replicate 16 no_window }

unfoldable pub started_of : ℕ → Result Clock Refusal
started_of drift = cond (eqb (start_code drift).code 0) (Ok (start_of drift)) (Err (start_code drift))

-- ---- a window taken

-- 32: there is no such server; 26: the window was received before it was asked for, or before the last one of that
-- server
unfoldable pub take_code : Clock → ℕ → Kept → Refusal
take_code c s w =
    first
    (when (ltb 7 s) 32
    ∷ when (ltb w.received w.sent) 26
    ∷ when (ltb w.received (newest c s).received) 26
    ∷ [])

-- a window in the newest place of server s, and what stood there in the older
unfoldable pub pushed : List Kept → ℕ → Kept → List Kept
pushed a s w = set (set a (2 * s + 1) (get_or a (2 * s) no_window)) (2 * s) w

-- the window is the server's newest, the one that was that is the older, and the older one goes
unfoldable pub keeping : Clock → ℕ → Kept → Clock
keeping c s w = record { drift = c.drift; kept = pushed c.kept s w }

unfoldable pub taken_of : Clock → ℕ → Kept → Result Clock Refusal
taken_of c s w = cond (eqb (take_code c s w).code 0) (Ok (keeping c s w)) (Err (take_code c s w))

-- ---- of either answer

-- its number: 0 with a state
abbrev pub number : Result Clock Refusal → ℕ
number (Ok k) = 0
number (Err why) = why.code

-- the state for the next call: a refusal leaves it as it was
abbrev pub next_of : Clock → Result Clock Refusal → Clock
next_of c (Ok k) = k
next_of c (Err why) = c
