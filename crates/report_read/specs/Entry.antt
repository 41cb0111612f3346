-- A malfeasance report (draft 19, section 8.4.1), as a function of the text: "a JSON object that contains the key
-- `responses`. Its value is a list of response objects ..
-- Each response object contains the keys `rand`, `publicKey`, `request`, and `response`. The values of all four keys
-- are represented as base64-encoded strings."
use Prim.Native.Char.{code}
use Rattle.std.specs.Prelude.{ℕ, suc, ◌+◌, ◌-◌, Bool, true, false, List, [], ◌∷◌, eqb, length, get_or, replicate, None, Option, Some}
use Rattle.laws.specs.Ascii.{ascii}
use Rattle.laws.specs.Pick.{pick, either, both}
use Rattle.json_values.specs.declared.Found.{Found}
use Rattle.json_values.specs.declared.Found.TheVariants.{At, Nothing, Twice}
use Rattle.json_tokens.specs.Scan.{past_while, blank}
use Rattle.json_tokens.specs.Walk.{starts}
use Rattle.json_strings.specs.Text.{content_at}
use Rattle.json_values.specs.Value.{value_at, item_step, deepest, is_text}
use Rattle.json_values.specs.Members.{found_of}
use Rattle.base64_strict.specs.Decode.{Decoded, bytes, none, decode64}
use Rattle.json_base64.specs.Sized.{size_of, good, plain}

-- a response object
pub record Entry : Type 0 where
  pub rand : List ℕ
  pub key : List ℕ
  pub request : List ℕ
  pub response : List ℕ

-- the names of the members
abbrev pub rand_name : List ℕ
rand_name = ascii "rand"

abbrev pub key_name : List ℕ
key_name = ascii "publicKey"

abbrev pub request_name : List ℕ
request_name = ascii "request"

abbrev pub response_name : List ℕ
response_name = ascii "response"

abbrev pub responses_name : List ℕ
responses_name = ascii "responses"

-- What is left of the depth to which values may nest: for those in the outermost object, for those in the list of
-- response objects there, and for those in a response object
abbrev pub in_report : ℕ
in_report = deepest - 1

abbrev pub in_list : ℕ
in_list = deepest - 2

abbrev pub in_entry : ℕ
in_entry = deepest - 3

-- the characters of the string that is the value of the one member that was found
unfoldable pub string_of : List ℕ → Found → Option ℕ
string_of s (At v) = pick (eqb (get_or s v 0) (code "\"")) (Some (v + 1)) None
string_of s Nothing = None
string_of s Twice = None

-- the same by the member's name, in the response object at a place
unfoldable pub text_place : List ℕ → ℕ → List ℕ → Option ℕ
text_place s at w = string_of s (found_of s w in_entry at)

abbrev pub decoded_at : List ℕ → Option ℕ → Decoded
decoded_at s (Some p) = decode64 (content_at s p)
decoded_at s None = none

-- what that string stands for in base64
unfoldable pub member_of : List ℕ → ℕ → List ℕ → Decoded
member_of s at w = decoded_at s (text_place s at w)

-- that it is base64, of how many bytes, and which; none where it is not
unfoldable pub is64 : Decoded → Bool
is64 d = good d

unfoldable pub size_in : Decoded → Option ℕ
size_in d = size_of 0 d

unfoldable pub held : Decoded → List ℕ
held d = plain d

-- that it is base64 of 32 bytes
unfoldable pub is32 : Decoded → Bool
is32 (bytes x) = eqb (length x) 32
is32 none = false

-- "The `rand` key MAY be omitted from the first response object in the list": there it is not looked at
unfoldable pub rand_good : List ℕ → Bool → ℕ → Bool
rand_good s first at = either first (is32 (member_of s at rand_name))

-- an object that has what a response object needs
unfoldable pub has_all : List ℕ → Bool → ℕ → Bool
has_all s first at =
    both (eqb (get_or s at 0) (code "{")) (both (rand_good s first at) (both (is32 (member_of s at key_name))
    (both (is64 (member_of s at request_name)) (is64 (member_of s at response_name)))))

-- its four byte strings; 32 zeros for the first one's rand
unfoldable pub entry_at : List ℕ → Bool → ℕ → Entry
entry_at s first at = record {
  rand = pick first (replicate 32 0) (held (member_of s at rand_name));
  key = held (member_of s at key_name);
  request = held (member_of s at request_name);
  response = held (member_of s at response_name);
}

-- the places of the elements of the list at a place, whose elements are nested at most d deep
unfoldable pub elements_of : List ℕ → ℕ → ℕ → List ℕ
elements_of s d at =
    pick (eqb (get_or s (past_while blank s (at + 1)) 0) (code "]")) []
    (starts (suc (length s)) (item_step s (value_at s d)) (past_while blank s (at + 1)))

-- over the elements; `first` says whether the first of them is the list's first
unfoldable pub all_of : List ℕ → Bool → List ℕ → Bool
all_of s first [] = true
all_of s first (k ∷ ks) = both (has_all s first k) (all_of s false ks)

unfoldable pub entries_at : List ℕ → Bool → List ℕ → List Entry
entries_at s first [] = []
entries_at s first (k ∷ ks) = entry_at s first k ∷ entries_at s false ks

-- the place of the list of response objects, where the text is JSON and an object with just one member "responses", a
-- list
unfoldable pub list_of : List ℕ → Found → Option ℕ
list_of s (At v) = pick (eqb (get_or s v 0) (code "[")) (Some v) None
list_of s Nothing = None
list_of s Twice = None

unfoldable pub list_place : List ℕ → Option ℕ
list_place s =
    pick (is_text s)
    (pick (eqb (get_or s (past_while blank s 0) 0) (code "{")) (list_of s (found_of s responses_name in_report (past_while blank s 0))) None)
    None

-- the entries of a report, or that the text is none
pub data Entries : Type 0 where
  these : List Entry → Entries
  unread : Entries

unfoldable pub entries_from : List ℕ → Option ℕ → Entries
entries_from s (Some v) = pick (all_of s true (elements_of s in_list v)) (these (entries_at s true (elements_of s in_list v))) unread
entries_from s None = unread

unfoldable pub entries_of : List ℕ → Entries
entries_of s = entries_from s (list_place s)
