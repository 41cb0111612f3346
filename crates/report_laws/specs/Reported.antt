-- Which texts are reports, and of which entries, in the words of draft 19, section 8.4.1, and of request P7: sentences
-- on the tree of values that a text means by RFC 8259 (json_laws: specs/Abnf, specs/Tree). No reader is named here.
use Rattle.std.specs.Prelude.{ℕ, ◌*◌, ◌≤◌, ◌<◌, ◌≡◌, Bool, true, false, List, [], ◌∷◌, length, replicate}
use Rattle.json_values.specs.Value.{deepest}
use Rattle.base64_strict.specs.Decode.{bytes, decode64}
use Rattle.pile.specs.Layout.{RECORD, AREA}
use Rattle.report_read.specs.Entry.{Entry, rand_name, key_name, request_name, response_name, responses_name}
use Rattle.json_laws.specs.Abnf.{JSON-text}
use Rattle.json_laws.specs.Tree.{Json, Member, members, elements, text_tree, Named}

-- ---- Draft 19, section 8.4.1: response objects.

-- "The values of all four keys are represented as base64-encoded strings": just one of the members has this name, and
-- its value is a string, whose characters are the bytes x in base64
pub record Member64 (list : List Member) (name x : List ℕ) : Type 0 where
  pub characters : List ℕ
  pub once : Named name list (Json.string characters ∷ [])
  pub base64 : decode64 characters ≡ bytes x

-- the same, of 32 bytes (request P7)
pub record Member32 (list : List Member) (name x : List ℕ) : Type 0 where
  pub member : Member64 list name x
  pub long : length x ≡ 32

-- "The `rand` key MAY be omitted from the first response object in the list"; one found there is ignored, whatever it
-- holds, and its record's rand is zero (request P7)
abbrev pub Rand : Bool → List Member → List ℕ → Type 0
Rand true list x = x ≡ replicate 32 0
Rand false list x = Member32 list rand_name x

-- "Each response object contains the keys `rand`, `publicKey`, `request`, and `response`": an object, and these are its
-- bytes
pub record ResponseObject (first : Bool) (t : Json) (e : Entry) : Type 0 where
  pub list : List Member
  pub object : t ≡ Json.object (members list)
  pub rand : Rand first list e.rand
  pub key : Member32 list key_name e.key
  pub request : Member64 list request_name e.request
  pub response : Member64 list response_name e.response

-- these are response objects, one for each entry, in their order ("sorted in the order received"); the first of them is
-- the list's first where `first` says so
pub data ResponseObjects : Bool → List Json → List Entry → Type 0 where
  no_more : {first : Bool} → ResponseObjects first [] []
  then-more : {first : Bool} {t : Json} {ts : List Json} {e : Entry} {es : List Entry} → ResponseObject first t e
      → ResponseObjects false ts es → ResponseObjects first (t ∷ ts) (e ∷ es)

-- ---- Draft 19, section 8.4.1: a report.

-- "A malfeasance report is a JSON object that contains the key `responses`. Its value is a list of response objects":
-- just one of the object's members has that name
pub record ReportTree (t : Json) (es : List Entry) : Type 0 where
  pub list : List Member
  pub object : t ≡ Json.object (members list)
  pub objects : List Json
  pub once : Named responses_name list (Json.array (elements objects) ∷ [])
  pub responses : ResponseObjects true objects es

-- the text is JSON by RFC 8259's grammar, nested at most 16 deep, and what it means is a report
pub record ReportText (s : List ℕ) (es : List Entry) : Type 0 where
  pub json : JSON-text deepest s
  pub report : ReportTree (text_tree deepest s json) es

-- ---- Request P7: how many entries, and how long their packets may be.

pub data Small : List Entry → Type 0 where
  all_small_lem : Small []
  small-then : {e : Entry} {es : List Entry} → length e.request ≤ AREA → length e.response ≤ AREA → Small es
      → Small (e ∷ es)

-- 1 to 16 entries, and no packet above 2,000 bytes
pub record RightAmount (es : List Entry) : Type 0 where
  pub some : 0 < length es
  pub few : length es ≤ 16
  pub small : Small es

pub data Big : List Entry → Type 0 where
  big-request : {e : Entry} {es : List Entry} → AREA < length e.request → Big (e ∷ es)
  big-response : {e : Entry} {es : List Entry} → AREA < length e.response → Big (e ∷ es)
  big-later : {e : Entry} {es : List Entry} → Big es → Big (e ∷ es)

-- no entry, more than 16, or a packet above 2,000 bytes
pub data WrongAmount (es : List Entry) : Type 0 where
  no-entry : length es ≡ 0 → WrongAmount es
  too_many : 16 < length es → WrongAmount es
  too_long : Big es → WrongAmount es

-- ---- What is read, as sentences.

-- 25: a report of a wrong amount
pub record Amiss (s : List ℕ) : Type 0 where
  pub entries : List Entry
  pub report : ReportText s entries
  pub wrong : WrongAmount entries

-- 19: a report of a right amount, and a buffer of fewer than 4,096 bytes a record
pub record Crowded (s : List ℕ) (room : ℕ) : Type 0 where
  pub entries : List Entry
  pub report : ReportText s entries
  pub right : RightAmount entries
  pub short : room < length entries * RECORD

-- a report of n entries that is read
pub record Readable (s : List ℕ) (room n : ℕ) : Type 0 where
  pub entries : List Entry
  pub report : ReportText s entries
  pub right : RightAmount entries
  pub enough : length entries * RECORD ≤ room
  pub count : n ≡ length entries
