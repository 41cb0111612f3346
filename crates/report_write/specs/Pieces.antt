-- For the private functions: the pieces that are put one behind the other, and the records that can be written.
use Prim.Native.Char.{code}
use Rattle.std.specs.Prelude.{ℕ, zero, suc, ◌+◌, ◌*◌, ◌≤◌, ◌<◌, Bool, true, false, List, [], ◌∷◌, ◌++◌, ◌≡◌, length}
use Rattle.base64_strict.specs.Encode.{encode64}
use Rattle.report_read.specs.Entry.{Entry}
use Rattle.laws.specs.Ascii.{ascii}
use Rattle.pile.specs.Layout.{RECORD, AREA}
use Rattle.pile.specs.Pile.{records_in, record_at, request_length, response_length}
use Rattle.report_write.specs.Entries.{entry_of, entries_in}
use Rattle.report_write.specs.Text.{entries_text}

-- the words before the four strings; the key's is another where it comes first
abbrev pub first_word : List ℕ
first_word = ascii "{\"publicKey\":\""

abbrev pub rand_word : List ℕ
rand_word = ascii "{\"rand\":\""

abbrev pub key_word : List ℕ
key_word = ascii "\",\"publicKey\":\""

abbrev pub request_word : List ℕ
request_word = ascii "\",\"request\":\""

abbrev pub response_word : List ℕ
response_word = ascii "\",\"response\":\""

-- a word, and bytes in base64
unfoldable pub piece : List ℕ → List ℕ → List ℕ
piece w x = w ++ encode64 x

unfoldable pub head_of : Bool → Entry → List ℕ
head_of true e = piece first_word e.key
head_of false e = piece rand_word e.rand ++ piece key_word e.key

unfoldable pub packets_of : Entry → List ℕ
packets_of e = piece request_word e.request ++ piece response_word e.response

-- an entry's object: its head, its packets, and `"}`
unfoldable pub object_text : Bool → Entry → List ℕ
object_text first e = head_of first e ++ packets_of e ++ ascii "\"}"

-- the objects of n records from record k on, with commas between them, the closing bracket and brace
unfoldable pub list_text : List ℕ → Bool → ℕ → ℕ → List ℕ
list_text p first zero k = []
list_text p first (suc m) k = entries_text first (entry_of (record_at p k)) (entries_in m p (k + 1)) (code "}" ∷ [])

-- a record whose packets lie within their areas
pub record Fits (r : List ℕ) : Type 0 where
  pub long : length r ≡ RECORD
  pub request : request_length r ≤ AREA
  pub response : response_length r ≤ AREA

-- such a record stands at place k of a pile
pub record Recorded (p : List ℕ) (k : ℕ) : Type 0 where
  pub inside : RECORD * k + RECORD ≤ length p
  pub fits : Fits (record_at p k)

-- n such records stand there from place k on, one at least
pub record Piled (p : List ℕ) (k n : ℕ) : Type 0 where
  pub some_left : 0 < n
  pub each : (i : ℕ) → i < n → Recorded p (k + i)

-- a pile that can be written
pub record Writable (pile : List ℕ) : Type 0 where
  pub piled : Piled pile 0 (records_in pile)
  pub few : records_in pile ≤ 16
