-- What the reader answers, and what it writes (request P7). Order: 24, 25, 19.
use Rattle.refusal.specs.declared.Refusal.{Refusal}
use Rattle.std.specs.Prelude.{ℕ, ◌*◌, Bool, false, List, [], ◌∷◌, eqb, ltb, length, Err, Ok, Result}
use Rattle.laws.specs.Pick.{pick, either}
use Rattle.refusal.specs.Refusal.{refusal}
use Rattle.pile.specs.Layout.{RECORD, AREA}
use Rattle.report_read.specs.Entry.{Entry, Entries, these, unread}
use Rattle.report_read.specs.Record.{records_of}

-- the number of an answer, 0 where nothing is refused
abbrev pub read_number : Result ℕ Refusal → ℕ
read_number (Ok n) = 0
read_number (Err why) = why.code

-- a packet above 2,000 bytes
unfoldable pub is_big : Entry → Bool
is_big e = either (ltb AREA (length e.request)) (ltb AREA (length e.response))

unfoldable pub any_big : List Entry → Bool
any_big [] = false
any_big (e ∷ es) = either (is_big e) (any_big es)

-- 24; 25 where there is no entry, where there are more than 16, or where a packet is too long; 19 where the buffer has
-- fewer than 4,096 bytes a record; else how many records there are
unfoldable pub read_of : Entries → ℕ → Result ℕ Refusal
read_of (these es) room =
    pick (eqb (length es) 0) (Err (refusal 25))
    (pick (ltb 16 (length es)) (Err (refusal 25))
    (pick (any_big es) (Err (refusal 25))
    (pick (ltb room (length es * RECORD)) (Err (refusal 19)) (Ok (length es)))))
read_of unread room = Err (refusal 24)

-- what is written where nothing is refused
unfoldable pub pile_bytes : Entries → List ℕ
pile_bytes (these es) = records_of es
pile_bytes unread = []
