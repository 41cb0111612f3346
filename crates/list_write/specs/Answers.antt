-- What the writers of server lists answer, and what they write. Order: 21, 24, 25, 19.
use Rattle.refusal.specs.declared.Refusal.{Refusal}
use Rattle.std.specs.Prelude.{ℕ, Bool, List, eqb, ltb, length, Err, Ok, Result}
use Rattle.laws.specs.Pick.{pick, both}
use Rattle.refusal.specs.Refusal.{refusal}
use Rattle.list_write.specs.declared.Item.TheVariants.{Source}
use Rattle.list_write.specs.Lines.{lines_of, all_good}
use Rattle.list_write.specs.Given.{Given, server_code, good_reports}
use Rattle.list_write.specs.Lent.{Lent, fitted, givens, all_servers, any_crowded}
use Rattle.list_write.specs.Texts.{server_text, list_text}

-- the number of an answer, 0 where nothing is refused
abbrev pub listing_number : Result ℕ Refusal → ℕ
listing_number (Ok n) = 0
listing_number (Err why) = why.code

-- a text for a buffer of room bytes: its length, or 19 where the buffer is too short
unfoldable pub roomed : List ℕ → ℕ → Result ℕ Refusal
roomed text room = pick (ltb room (length text)) (Err (refusal 19)) (Ok (length text))

-- the text, where this code is 0
unfoldable pub answered : ℕ → List ℕ → ℕ → Result ℕ Refusal
answered code text room = pick (eqb code 0) (roomed text room) (Err (refusal code))

-- one server
unfoldable pub server_answer : Given → ℕ → Result ℕ Refusal
server_answer g room = answered (server_code g.name g.addresses) (server_text g) room

-- all that stands in a list can be written
unfoldable pub good_list : Lent → List ℕ → List ℕ → Bool
good_list l sources reports =
    both (all_servers (givens l)) (both (all_good Source (lines_of sources)) (good_reports reports))

-- no server, more than 64, or one with too many addresses
unfoldable pub size_code : List Given → ℕ
size_code gs = pick (eqb (length gs) 0) 25 (pick (ltb 64 (length gs)) 25 (pick (any_crowded gs) 25 0))

unfoldable pub list_code : Lent → List ℕ → List ℕ → ℕ
list_code l sources reports = pick (fitted l) (pick (good_list l sources reports) (size_code (givens l)) 24) 21

unfoldable pub list_answer : Lent → List ℕ → List ℕ → ℕ → Result ℕ Refusal
list_answer l sources reports room =
    answered (list_code l sources reports) (list_text (givens l) sources reports) room
