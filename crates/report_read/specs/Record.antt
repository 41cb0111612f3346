-- The record of an entry, as piles have it (document 01, "Piles and reports"; `record_bytes` of pile). A key or a rand
-- that is shorter than 32 bytes, which no entry of a report that is read has, stands in 32 with zeros behind it.
use Rattle.std.specs.Prelude.{List, [], ◌∷◌, ◌++◌, ℕ}
use Rattle.pile.specs.Recording.{padded, record_bytes}
use Rattle.report_read.specs.Entry.{Entry}

unfoldable pub record_of : Entry → List ℕ
record_of e = record_bytes (padded 32 e.key) (padded 32 e.rand) e.request e.response

-- one after the other
unfoldable pub records_of : List Entry → List ℕ
records_of [] = []
records_of (e ∷ es) = record_of e ++ records_of es
