-- The entries of a pile (draft 19, 8.4.1), one for each record, in their order; and its text.
use Rattle.std.specs.Prelude.{ℕ, zero, suc, ◌+◌, List, [], ◌∷◌}
use Rattle.report_read.specs.Entry.{Entry}
use Rattle.pile.specs.Pile.{records_in, record_at, key_in, rand_in, request_packet, response_packet}
use Rattle.report_write.specs.Text.{json_of}

-- what stands in a record
unfoldable pub entry_of : List ℕ → Entry
entry_of r = record { rand = rand_in r; key = key_in r; request = request_packet r; response = response_packet r }

-- the entries of n records, from record k on
unfoldable pub entries_in : ℕ → List ℕ → ℕ → List Entry
entries_in zero pile k = []
entries_in (suc n) pile k = entry_of (record_at pile k) ∷ entries_in n pile (k + 1)

-- the text of a whole pile
unfoldable pub text_of : List ℕ → List ℕ
text_of pile = json_of (entries_in (records_in pile) pile 0)
