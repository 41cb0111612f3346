-- Which texts are server lists, and what these say, in the words of draft 19, section 8.3: sentences on the tree of
-- values that a text means by RFC 8259 (json_laws: specs/Abnf, specs/Tree). No reader is named here.
use Rattle.std.specs.Prelude.{ℕ, ◌≤◌, ◌≡◌, Bool, true, false, List, [], ◌∷◌, length}
use Rattle.laws.specs.Ascii.{ascii}
use Rattle.json_text.specs.Octets.{Text, octets, none, encoded}
use Rattle.json_values.specs.Value.{deepest}
use Rattle.base64_strict.specs.Decode.{bytes, decode64}
use Rattle.list_address.specs.Address.{is_address}
use Rattle.list_address.specs.Https.{is_https}
use Rattle.list_read.specs.Server.{Address, Server, name_name, version_name, scheme_name, key_name, addresses_name}
use Rattle.list_read.specs.Server.{protocol_name, address_name, unmarked, longest}
use Rattle.list_read.specs.Listed.{Listed, Lists, this, unread, servers_name, sources_name, reports_name}
use Rattle.json_laws.specs.Abnf.{JSON-text}
use Rattle.json_laws.specs.Tree.{Json, Member, members, elements, paired, text_tree, Named}

-- ---- Values.

-- just one of the members has this name, and its value is such a one
pub record Just (list : List Member) (name : List ℕ) (P : Json → Type 0) : Type 0 where
  pub value : Json
  pub once : Named name list (value ∷ [])
  pub is : P value

-- a string of Unicode characters: no surrogate is one, and x is the UTF-8 of all, one after the other
pub record TextString (x : List ℕ) (t : Json) : Type 0 where
  pub characters : List ℕ
  pub string : t ≡ Json.string characters
  pub utf8 : encoded characters ≡ octets x

-- such a string, of at most 2,048 octets (docs/DECISIONS.md), of which a test holds
pub record TestedString (test : List ℕ → Bool) (x : List ℕ) (t : Json) : Type 0 where
  pub text : TextString x t
  pub short : length x ≤ longest
  pub holds : test x ≡ true

-- "an integer": a number of the text x, with neither fraction nor exponent: with no point, no e and no E
pub record Integer (x : List ℕ) (t : Json) : Type 0 where
  pub number : t ≡ Json.number x
  pub whole : unmarked x ≡ true

-- "a base64-encoded [RFC4648] string" of the bytes x
pub record Base64 (x : List ℕ) (t : Json) : Type 0 where
  pub characters : List ℕ
  pub string : t ≡ Json.string characters
  pub base64 : decode64 characters ≡ bytes x

-- a string of these characters
abbrev pub Characters : List ℕ → Json → Type 0
Characters x t = t ≡ Json.string x

-- ---- Draft 19, section 8.3: address objects.

-- "The value of "protocol" is either "tcp" or "udp""
abbrev pub protocol_of : Bool → List ℕ
protocol_of true = ascii "tcp"
protocol_of false = ascii "udp"

-- "An address object contains the keys "protocol" and "address" .. The value of "address" is a string indicating a host
-- and a port number, separated by a colon character"
pub record AddressObject (t : Json) (a : Address) : Type 0 where
  pub list : List Member
  pub object : t ≡ Json.object (members list)
  pub protocol : Just list protocol_name (Characters (protocol_of a.tcp))
  pub address : Just list address_name (TestedString is_address a.address)

-- these are address objects, one for each address, in their order
pub data AddressObjects : List Json → List Address → Type 0 where
  no_address : AddressObjects [] []
  an-address : {t : Json} {ts : List Json} {a : Address} {l : List Address} → AddressObject t a
      → AddressObjects ts l → AddressObjects (t ∷ ts) (a ∷ l)

-- "a list of address objects"
pub record AddressList (l : List Address) (t : Json) : Type 0 where
  pub objects : List Json
  pub array : t ≡ Json.array (elements objects)
  pub each : AddressObjects objects l

-- ---- Draft 19, section 8.3: server objects.

-- "server objects, each containing the keys "name", "version", "publicKeyType", "publicKey", and "addresses""
pub record ServerObject (t : Json) (v : Server) : Type 0 where
  pub list : List Member
  pub object : t ≡ Json.object (members list)
  -- "The value of "name" is a string that contains a server name suitable for display to a user."
  pub name : Just list name_name (TextString v.name)
  -- "The value of "version" is an integer that indicates the highest Roughtime version number supported by the server."
  pub version : Just list version_name (Integer v.version)
  -- "The value of "publicKeyType" is a string indicating the signature scheme used by the server."
  pub scheme : Just list scheme_name (Characters v.scheme)
  -- "The value of "publicKey" is a base64-encoded [RFC4648] string representing the long-term public key of the server"
  pub key : Just list key_name (Base64 v.key)
  -- "The value of "addresses" is a list of address objects."
  pub addresses : Just list addresses_name (AddressList v.addresses)

pub data ServerObjects : List Json → List Server → Type 0 where
  no-server : ServerObjects [] []
  a-server : {t : Json} {ts : List Json} {v : Server} {vs : List Server} → ServerObject t v → ServerObjects ts vs
      → ServerObjects (t ∷ ts) (v ∷ vs)

-- "a list of server objects"
pub record ServerList (vs : List Server) (t : Json) : Type 0 where
  pub objects : List Json
  pub array : t ≡ Json.array (elements objects)
  pub each : ServerObjects objects vs

-- ---- Draft 19, section 8.3: URLs.

-- "Each string is a URL [RFC3986] pointing to a list in the format specified here. The URI scheme MUST be HTTPS"
abbrev pub Url : List ℕ → Json → Type 0
Url x t = TestedString is_https x t

pub data Urls : List Json → List (List ℕ) → Type 0 where
  no-url : Urls [] []
  a-url : {t : Json} {ts : List Json} {x : List ℕ} {xs : List (List ℕ)} → Url x t → Urls ts xs
      → Urls (t ∷ ts) (x ∷ xs)

-- "a list of strings"
pub record UrlList (xs : List (List ℕ)) (t : Json) : Type 0 where
  pub strings : List Json
  pub array : t ≡ Json.array (elements strings)
  pub each : Urls strings xs

-- "The value of "sources", if present, is a list of strings indicating where updated versions of the list may be
-- acquired"
pub data Sources (list : List Member) : List (List ℕ) → Type 0 where
  no-sources : Named sources_name list [] → Sources list []
  the-sources : {xs : List (List ℕ)} → Just list sources_name (UrlList xs) → Sources list xs

-- "The value of "reports", if present, is a string indicating a URL [RFC3986] where malfeasance reports can be sent"
pub data Reports (list : List Member) : Text → Type 0 where
  no-reports : Named reports_name list [] → Reports list none
  the-reports : {x : List ℕ} → Just list reports_name (Url x) → Reports list (octets x)

-- ---- Draft 19, section 8.3: a server list.

-- "A server list is a JSON [RFC8259] object that contains the key "servers". Server list objects MAY also contain the
-- keys "sources" and "reports"."
pub record ListTree (t : Json) (l : Listed) : Type 0 where
  pub list : List Member
  pub object : t ≡ Json.object (members list)
  -- "The value of the "servers" key is a list of server objects"
  pub servers : Just list servers_name (ServerList l.servers)
  pub sources : Sources list l.sources
  pub reports : Reports list l.reports

-- the text is JSON by RFC 8259's grammar, nested at most 16 deep, and what it means is a server list
pub record ListText (s : List ℕ) (l : Listed) : Type 0 where
  pub json : JSON-text deepest s
  pub means : ListTree (text_tree deepest s json) l

-- ---- What is read, by characters: the reader, which only compares the type of a key, takes the two halves of a
-- surrogate pair in it for two. Here they are the one character that they are in the tree.
unfoldable pub spelt : Server → Server
spelt v = record {
  name = v.name;
  version = v.version;
  scheme = paired v.scheme;
  key = v.key;
  addresses = v.addresses;
}

unfoldable pub spelt_all : List Server → List Server
spelt_all [] = []
spelt_all (v ∷ vs) = spelt v ∷ spelt_all vs

unfoldable pub spelt_list : Listed → Listed
spelt_list l = record { servers = spelt_all l.servers; sources = l.sources; reports = l.reports }

unfoldable pub told : Lists → Lists
told (this l) = this (spelt_list l)
told unread = unread
