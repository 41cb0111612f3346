-- For the private functions: what is kept of an entry, of the list and of the whole text, so that the records are written
-- from the places of the strings.
use Rattle.std.specs.Prelude.{ℕ, suc, ◌≤◌, ◌<◌, ◌≡◌, Bool, true, false, List, eqb, length, get_or, None, Option, Some}
use Rattle.laws.specs.Pick.{either}
use Rattle.json_tokens.specs.declared.Step.{Step}
use Rattle.json_tokens.specs.Scan.{past_while, blank}
use Rattle.json_tokens.specs.Walk.{onward, walked, more_of, starts}
use Rattle.json_strings.specs.Text.{content_at}
use Rattle.json_values.specs.declared.Found.{Found}
use Rattle.json_values.specs.declared.Found.TheVariants.{At, Nothing, Twice}
use Rattle.json_values.specs.Value.{value_at, item_step, member_step, array_of, object_of}
use Rattle.json_values.specs.Members.{named, tally, found_of}
use Rattle.base64_strict.specs.Decode.{decode64}
use Rattle.pile.specs.Layout.{AREA}
use Rattle.report_read.specs.declared.Spot.{Spot}
use Rattle.report_read.specs.declared.Kept.{Kept}
use Rattle.report_read.specs.Entry.{rand_name, key_name, request_name, response_name, responses_name}
use Rattle.report_read.specs.Entry.{in_report, in_list, string_of, decoded_at, member_of, is64, size_in, held, is32, has_all, entry_at}
use Rattle.report_read.specs.Entry.{elements_of, all_of, entries_at, these, unread, entries_of}
use Rattle.report_read.specs.Read.{any_big}

-- the object at a place can be written as a record
pub record Ready (s : List ℕ) (first : Bool) (at : ℕ) : Type 0 where
  pub inside : at < length s
  pub key : length (entry_at s first at).key ≤ 32
  pub rand : length (entry_at s first at).rand ≤ 32
  pub request : length (entry_at s first at).request ≤ AREA
  pub response : length (entry_at s first at).response ≤ AREA

-- the places of the elements of the list from the one at k on
unfoldable pub from : List ℕ → ℕ → List ℕ
from s k = starts (suc (length s)) (item_step s (value_at s in_list)) k

-- ---- A member that was found: the string at p, of n bytes in base64.
pub record Measured (s : List ℕ) (f : Found) (p n : ℕ) : Type 0 where
  pub is : decode64 (content_at s p) ≡ decoded_at s (string_of s f)
  pub size : Some n ≡ size_in (decoded_at s (string_of s f))

abbrev pub PartOf : List ℕ → Found → Option (ℕ × ℕ) → Type 0
PartOf s f (Some (p, n)) = Measured s f p n
PartOf s f None = is64 (decoded_at s (string_of s f)) ≡ false

-- the same where it has to be of 32 bytes,
abbrev pub Exact : List ℕ → Found → Option ℕ → Type 0
Exact s f (Some p) = (decode64 (content_at s p) ≡ decoded_at s (string_of s f)) × (is32 (decoded_at s (string_of s f)) ≡ true)
Exact s f None = is32 (decoded_at s (string_of s f)) ≡ false

-- but for the first entry's rand
abbrev pub Randed : List ℕ → Found → Bool → Option ℕ → Type 0
Randed s f first (Some p) =
    (first ≡ false → decode64 (content_at s p) ≡ decoded_at s (string_of s f))
    × (either first (is32 (decoded_at s (string_of s f))) ≡ true)
Randed s f first None = either first (is32 (decoded_at s (string_of s f))) ≡ false

-- ---- An entry, by the places of its strings.
pub record Spotted (s : List ℕ) (first : Bool) (e : Spot) : Type 0 where
  pub key : decode64 (content_at s e.key) ≡ member_of s e.at key_name
  pub rand : first ≡ false → decode64 (content_at s e.rand) ≡ member_of s e.at rand_name
  pub request : decode64 (content_at s e.request) ≡ member_of s e.at request_name
  pub response : decode64 (content_at s e.response) ≡ member_of s e.at response_name
  pub asked : e.asked ≡ length (held (member_of s e.at request_name))
  pub said : e.said ≡ length (held (member_of s e.at response_name))

-- the element at k is a response object, and ends at j
pub record Fine (s : List ℕ) (first : Bool) (k : ℕ) (e : Spot) (j : ℕ) : Type 0 where
  pub here : e.at ≡ k
  pub all : has_all s first k ≡ true
  pub end : value_at s in_list k ≡ Some j
  pub spot : Spotted s first e

-- an entry that can be written
pub record Writable (s : List ℕ) (first : Bool) (e : Spot) : Type 0 where
  pub ready : Ready s first e.at
  pub all : has_all s first e.at ≡ true
  pub spot : Spotted s first e

abbrev pub Looks : List ℕ → Bool → ℕ → Option (Spot × ℕ) → Type 0
Looks s first k (Some (e, j)) = Fine s first k e j
Looks s first k None = has_all s first k ≡ true → value_at s in_list k ≡ None

-- ---- The list: n elements, and the spots of the first 16.
abbrev pub spot_in : List Spot → ℕ → Spot
spot_in es i = get_or es i (record { at = 0; key = 0; rand = 0; request = 0; response = 0; asked = 0; said = 0 })

pub record Keeps (s ks : List ℕ) (n : ℕ) (big : Bool) (es : List Spot) : Type 0 where
  pub count : n ≡ length ks
  pub weighed : big ≡ any_big (entries_at s true ks)
  pub spots : (i : ℕ) → i < n → i < 16 → ((spot_in es i).at ≡ get_or ks i 0) × Spotted s (eqb i 0) (spot_in es i)

pub record Listed (s : List ℕ) (v : ℕ) (r : Kept) (j : ℕ) : Type 0 where
  pub all : all_of s true (elements_of s in_list v) ≡ true
  pub ends : array_of s (value_at s in_list) v ≡ Some j
  pub keeps : Keeps s (elements_of s in_list v) r.n r.big r.spots

abbrev pub ListedBy : List ℕ → ℕ → Option (Kept × ℕ) → Type 0
ListedBy s v (Some (r, j)) = Listed s v r j
ListedBy s v None = all_of s true (elements_of s in_list v) ≡ true → array_of s (value_at s in_list) v ≡ None

-- ---- The outermost object, from the member at k on: where it ends, and its members.
unfoldable pub end_from : List ℕ → ℕ → Option ℕ
end_from s k = walked (length s) (member_step s (value_at s in_report)) k

unfoldable pub members_from : List ℕ → ℕ → List ℕ
members_from s k = starts (suc (length s)) (member_step s (value_at s in_report)) k

-- k is the first member from k₀ on that has the name
pub record Sought (s : List ℕ) (k₀ k : ℕ) : Type 0 where
  pub ends : end_from s k ≡ end_from s k₀
  pub count : tally s responses_name 0 0 (members_from s k) ≡ tally s responses_name 0 0 (members_from s k₀)
  pub named : named s responses_name k ≡ true

abbrev pub Seeks : List ℕ → ℕ → Option ℕ → Type 0
Seeks s k₀ (Some k) = Sought s k₀ k
Seeks s k₀ None = (e : ℕ) → end_from s k₀ ≡ Some e → tally s responses_name 0 0 (members_from s k₀) ≡ Nothing

-- no other member behind it has the name
abbrev pub Rests : List ℕ → ℕ → Option ℕ → Type 0
Rests s k (Some e) = (end_from s k ≡ Some e) × ((v : ℕ) → tally s responses_name 1 v (members_from s k) ≡ At v)
Rests s k None = (e : ℕ) → end_from s k ≡ Some e → (v : ℕ) → tally s responses_name 1 v (members_from s k) ≡ Twice

-- the same where a turn has ended
abbrev pub Behind : List ℕ → Step → Option ℕ → Type 0
Behind s t (Some e) =
    (onward t (end_from s) ≡ Some e) × ((v : ℕ) → tally s responses_name 1 v (more_of t (members_from s)) ≡ At v)
Behind s t None =
    (e : ℕ) → onward t (end_from s) ≡ Some e → (v : ℕ) → tally s responses_name 1 v (more_of t (members_from s)) ≡ Twice

-- ---- The text: its outermost object has the name at k first,
pub record Opened (s : List ℕ) (k : ℕ) : Type 0 where
  pub brace : get_or s (past_while blank s 0) 0 ≡ 123
  pub ends : end_from s k ≡ object_of s (value_at s in_report) (past_while blank s 0)
  pub count : tally s responses_name 0 0 (members_from s k) ≡ found_of s responses_name in_report (past_while blank s 0)
  pub named : named s responses_name k ≡ true

-- and it is a report
pub record Told (s : List ℕ) (n : ℕ) (big : Bool) (es : List Spot) : Type 0 where
  pub places : List ℕ
  pub entries : entries_of s ≡ these (entries_at s true places)
  pub all : all_of s true places ≡ true
  pub keeps : Keeps s places n big es

abbrev pub ReportBy : List ℕ → Option Kept → Type 0
ReportBy s (Some r) = Told s r.n r.big r.spots
ReportBy s None = entries_of s ≡ unread
