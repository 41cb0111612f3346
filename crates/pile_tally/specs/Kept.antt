-- What is kept from window to window, and what one window more makes of it: the largest MIDP - RADI so far, which stops
-- at 0, and 0 before any window. Whether it is none or one below 0 that the 0 stands for makes no difference
-- (`from_zero`): no MIDP + RADI is below 0.
use Rattle.refusal.specs.declared.Refusal.{Refusal}
use Rattle.std.specs.Prelude.{◌≡◌, Bool, false, ◌||◌, List, [], ◌∷◌, ◌++◌, ℕ, zero, suc, ◌+◌, max, ltb, length, Err, Ok, Result}
use Rattle.check_response.specs.Window.{low_of}
use Rattle.check_response.specs.declared.Window.{Window}
use Rattle.pile_tally.specs.EveryPair.{said_in, an_earlier}
use Rattle.pile_tally.specs.declared.Tally.{Tally}
use Rattle.pile_tally.specs.declared.Tallied.{Tallied}

-- ---- what is kept

-- the low end of a record's window; a refused record counts for nothing
abbrev pub low_end : Result Window Refusal → ℕ
low_end (Ok w) = low_of w.midp w.radi
low_end (Err why) = 0

-- the largest of the first n records
unfoldable pub most_of : (ℕ → Result Window Refusal) → ℕ → ℕ
most_of v zero = 0
most_of v (suc n) = max (most_of v n) (low_end (v n))

-- the state after the windows of a list
abbrev pub tally_of : List Window → Tally
tally_of ws = record { most = most_of (said_in ws) (length ws) }

-- ---- one more

-- one window more, for every state: it contradicts an earlier one where its MIDP + RADI is below what is kept
abbrev pub tallied_of : Tally → ℕ → ℕ → Tallied
tallied_of t midp radi =
    record { tally = record { most = max t.most (low_of midp radi) }; contradicts = ltb (midp + radi) t.most }

-- one record more: a refused one changes nothing
abbrev pub tallied : Tally → Result Window Refusal → Tallied
tallied t (Ok w) = tallied_of t w.midp w.radi
tallied t (Err why) = record { tally = t; contradicts = false }

-- the state after the first n records, taken one by one from the start
unfoldable pub after : (ℕ → Result Window Refusal) → ℕ → Tally
after v zero = tally_of []
after v (suc n) = (tallied (after v n) (v n)).tally

-- one of the first n, taken so, was said to contradict an earlier one: what a host knows that judges as it goes. It is
-- what the every-pair check says (`goes-says`).
unfoldable pub goes : (ℕ → Result Window Refusal) → ℕ → Bool
goes v zero = false
goes v (suc n) = goes v n || (tallied (after v n) (v n)).contradicts

-- What a taker promises in the words of the every-pair check. Of whichever windows ws the state is, and for a window w
-- with this MIDP and RADI: the answer says whether one of ws contradicts w, and what is left is the state after ws and
-- w.
abbrev pub AsItGoes : Tally → ℕ → ℕ → Tallied → Type 0
AsItGoes t midp radi r =
    (ws : List Window) (w : Window) → t ≡ tally_of ws → w.midp ≡ midp → w.radi ≡ radi
    → (r.contradicts ≡ an_earlier ws w) × (r.tally ≡ tally_of (ws ++ w ∷ []))
