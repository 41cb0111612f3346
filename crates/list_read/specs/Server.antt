-- A server object of a server list (draft 19, section 8.3), as a function of the text and the object's place: "server
-- objects, each containing the keys "name", "version", "publicKeyType", "publicKey", and "addresses"". Other members
-- are skipped; of these there is just one each.
use Prim.Native.Char.{code}
use Rattle.std.specs.Prelude.{ℕ, ◌-◌, Bool, true, false, List, [], ◌∷◌, eqb, leb, length, get_or, None, Option, Some}
use Rattle.laws.specs.Ascii.{ascii}
use Rattle.laws.specs.Pasted.{part}
use Rattle.laws.specs.Pick.{pick, either, both}
use Rattle.json_tokens.specs.Number.{number_at}
use Rattle.json_strings.specs.Text.{content_at, same_list}
use Rattle.json_text.specs.Octets.{Text, octets, none, text_of, plain}
use Rattle.json_values.specs.declared.Found.{Found}
use Rattle.json_values.specs.declared.Found.TheVariants.{At, Nothing, Twice}
use Rattle.json_values.specs.Value.{deepest}
use Rattle.json_values.specs.Members.{found_of}
use Rattle.base64_strict.specs.Decode.{Decoded}
use Rattle.report_read.specs.Entry.{string_of, decoded_at, elements_of, is64, held}
use Rattle.report_read.specs.Entry.{list_of as array_of}
use Rattle.list_address.specs.Address.{is_address}

-- an address object
pub record Address : Type 0 where
  pub tcp : Bool
  pub address : List ℕ

-- A server object: the name as UTF-8, the version as it is written, the numbers of the characters of the key's type,
-- and the bytes of the key
pub record Server : Type 0 where
  pub name : List ℕ
  pub version : List ℕ
  pub scheme : List ℕ
  pub key : List ℕ
  pub addresses : List Address

-- the names of the members
abbrev pub name_name : List ℕ
name_name = ascii "name"

abbrev pub version_name : List ℕ
version_name = ascii "version"

abbrev pub scheme_name : List ℕ
scheme_name = ascii "publicKeyType"

abbrev pub key_name : List ℕ
key_name = ascii "publicKey"

abbrev pub addresses_name : List ℕ
addresses_name = ascii "addresses"

abbrev pub protocol_name : List ℕ
protocol_name = ascii "protocol"

abbrev pub address_name : List ℕ
address_name = ascii "address"

-- What is left of the depth to which values may nest: for those in the outermost object, in the list of servers, in a
-- server object, in its list of addresses, and in an address object
abbrev pub in_root : ℕ
in_root = deepest - 1

abbrev pub in_servers : ℕ
in_servers = deepest - 2

abbrev pub in_server : ℕ
in_server = deepest - 3

abbrev pub in_addresses : ℕ
in_addresses = deepest - 4

abbrev pub in_address : ℕ
in_address = deepest - 5

-- ---- The values of members.

-- the text of a string, by the place of its characters, and of a member that is a string
unfoldable pub text_in : List ℕ → Option ℕ → Text
text_in s (Some p) = text_of (content_at s p)
text_in s None = none

unfoldable pub text_by : List ℕ → Found → Text
text_by s f = text_in s (string_of s f)

-- that there is one
unfoldable pub is_some : Text → Bool
is_some (octets x) = true
is_some none = false

-- "an integer": a number with no fraction, which begins with a point, and no exponent, which begins with an e
unfoldable pub is_mark : ℕ → Bool
is_mark b = either (eqb b (code ".")) (either (eqb b (code "e")) (eqb b (code "E")))

unfoldable pub unmarked : List ℕ → Bool
unmarked [] = true
unmarked (b ∷ bs) = pick (is_mark b) false (unmarked bs)

unfoldable pub whole_of : List ℕ → Text
whole_of x = pick (unmarked x) (octets x) none

-- as it is written, from its place to its end
unfoldable pub up_to : List ℕ → ℕ → Option ℕ → Text
up_to s v (Some e) = whole_of (part v e s)
up_to s v None = none

unfoldable pub version_by : List ℕ → Found → Text
version_by s (At v) = up_to s v (number_at s v)
version_by s Nothing = none
version_by s Twice = none

-- the numbers of a string's characters, and that there is a string
unfoldable pub content_in : List ℕ → Option ℕ → List ℕ
content_in s (Some p) = content_at s p
content_in s None = []

unfoldable pub is_there : Option ℕ → Bool
is_there (Some p) = true
is_there None = false

-- what a string of base64 stands for
unfoldable pub key_by : List ℕ → Found → Decoded
key_by s f = decoded_at s (string_of s f)

-- ---- Addresses: "The value of "protocol" is either "tcp" or "udp" .. The value of "address" is a string indicating a
-- host and a port number, separated by a colon character".

-- the longest text of an address or a URL that is read (docs/DECISIONS.md); an address is never so long
abbrev pub longest : ℕ
longest = 2048

-- a text that is no longer and passes a test
unfoldable pub passes : (List ℕ → Bool) → Text → Bool
passes p (octets x) = both (leb (length x) longest) (p x)
passes p none = false

unfoldable pub is_place : Text → Bool
is_place t = passes is_address t

-- the member of a name of the address object at a place
unfoldable pub of_address : List ℕ → ℕ → List ℕ → Found
of_address s k w = found_of s w in_address k

-- a string is the word
unfoldable pub is_word : List ℕ → Option ℕ → List ℕ → Bool
is_word s x w = same_list (content_in s x) w

unfoldable pub is_protocol : List ℕ → Option ℕ → Bool
is_protocol s x = either (is_word s x (ascii "udp")) (is_word s x (ascii "tcp"))

unfoldable pub address_good : List ℕ → ℕ → Bool
address_good s k =
    both (eqb (get_or s k 0) (code "{")) (both (is_protocol s (string_of s (of_address s k protocol_name)))
    (is_place (text_by s (of_address s k address_name))))

unfoldable pub address_at : List ℕ → ℕ → Address
address_at s k = record {
  tcp = is_word s (string_of s (of_address s k protocol_name)) (ascii "tcp");
  address = plain (text_by s (of_address s k address_name));
}

unfoldable pub all_addresses : List ℕ → List ℕ → Bool
all_addresses s [] = true
all_addresses s (k ∷ ks) = both (address_good s k) (all_addresses s ks)

unfoldable pub addresses_at : List ℕ → List ℕ → List Address
addresses_at s [] = []
addresses_at s (k ∷ ks) = address_at s k ∷ addresses_at s ks

-- the places of the elements of a list that is an object's member; none where there is no list
unfoldable pub places_in : List ℕ → ℕ → Option ℕ → List ℕ
places_in s d (Some v) = elements_of s d v
places_in s d None = []

unfoldable pub addresses_good : List ℕ → Option ℕ → Bool
addresses_good s x = both (is_there x) (all_addresses s (places_in s in_addresses x))

-- ---- Servers.

-- the member of a name of the server object at a place
unfoldable pub of_server : List ℕ → ℕ → List ℕ → Found
of_server s k w = found_of s w in_server k

-- the places of its address objects
unfoldable pub address_places : List ℕ → ℕ → List ℕ
address_places s k = places_in s in_addresses (array_of s (of_server s k addresses_name))

-- an object that has what a server object needs
unfoldable pub server_good : List ℕ → ℕ → Bool
server_good s k =
    both (eqb (get_or s k 0) (code "{")) (both (is_some (text_by s (of_server s k name_name)))
    (both (is_some (version_by s (of_server s k version_name))) (both (is_there (string_of s (of_server s k scheme_name)))
    (both (is64 (key_by s (of_server s k key_name)))
    (addresses_good s (array_of s (of_server s k addresses_name)))))))

unfoldable pub server_at : List ℕ → ℕ → Server
server_at s k = record {
  name = plain (text_by s (of_server s k name_name));
  version = plain (version_by s (of_server s k version_name));
  scheme = content_in s (string_of s (of_server s k scheme_name));
  key = held (key_by s (of_server s k key_name));
  addresses = addresses_at s (address_places s k);
}

-- A server that this library can ask: "The value for servers supporting version 1 of Roughtime is "ed25519"", and an
-- Ed25519 key has 32 bytes. Version 1 is what this library speaks.
unfoldable pub askable : Server → Bool
askable v =
    both (same_list v.scheme (ascii "ed25519")) (both (same_list v.version (ascii "1")) (eqb (length v.key) 32))
