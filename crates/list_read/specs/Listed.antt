-- A server list (draft 19, section 8.3), as a function of the text: "a JSON object that contains the key "servers".
-- Server list objects MAY also contain the keys "sources" and "reports"."
use Prim.Native.Char.{code}
use Rattle.std.specs.Prelude.{ℕ, Bool, true, false, List, [], ◌∷◌, eqb, get_or, None, Option, Some}
use Rattle.laws.specs.Ascii.{ascii}
use Rattle.laws.specs.Pick.{pick, both}
use Rattle.json_tokens.specs.Scan.{past_blanks}
use Rattle.json_text.specs.Octets.{Text, plain}
use Rattle.json_values.specs.declared.Found.{Found}
use Rattle.json_values.specs.declared.Found.TheVariants.{At, Nothing, Twice}
use Rattle.json_values.specs.Value.{is_text}
use Rattle.json_values.specs.Members.{found_of}
use Rattle.report_read.specs.Entry.{list_of as array_of}
use Rattle.list_address.specs.Https.{is_https}
use Rattle.list_read.specs.Server.{Server, in_root, in_servers, passes, text_by, is_there, places_in}
use Rattle.list_read.specs.Server.{server_good, server_at}

-- a server list; no reports where it has no such member
pub record Listed : Type 0 where
  pub servers : List Server
  pub sources : List (List ℕ)
  pub reports : Text

abbrev pub servers_name : List ℕ
servers_name = ascii "servers"

abbrev pub sources_name : List ℕ
sources_name = ascii "sources"

abbrev pub reports_name : List ℕ
reports_name = ascii "reports"

-- "Each string is a URL .. The URI scheme MUST be HTTPS"; the longest that is read has 2,048 octets
unfoldable pub is_url : Text → Bool
is_url t = passes is_https t

-- ---- "sources", "a list of strings", by the places of its elements

unfoldable pub url_at : List ℕ → ℕ → Text
url_at s k = text_by s (At k)

unfoldable pub all_urls : List ℕ → List ℕ → Bool
all_urls s [] = true
all_urls s (k ∷ ks) = both (is_url (url_at s k)) (all_urls s ks)

unfoldable pub urls_at : List ℕ → List ℕ → List (List ℕ)
urls_at s [] = []
urls_at s (k ∷ ks) = plain (url_at s k) ∷ urls_at s ks

-- the places of the sources
unfoldable pub source_places : List ℕ → Found → List ℕ
source_places s f = places_in s in_servers (array_of s f)

-- "if present"
unfoldable pub sources_good : List ℕ → Found → Bool
sources_good s (At v) = both (is_there (array_of s (At v))) (all_urls s (source_places s (At v)))
sources_good s Nothing = true
sources_good s Twice = false

-- ---- "reports", "a string indicating a URL", "if present"

unfoldable pub reports_good : List ℕ → Found → Bool
reports_good s (At v) = is_url (url_at s v)
reports_good s Nothing = true
reports_good s Twice = false

-- ---- "servers"

unfoldable pub all_servers : List ℕ → List ℕ → Bool
all_servers s [] = true
all_servers s (k ∷ ks) = both (server_good s k) (all_servers s ks)

unfoldable pub servers_at : List ℕ → List ℕ → List Server
servers_at s [] = []
servers_at s (k ∷ ks) = server_at s k ∷ servers_at s ks

-- ---- The list

-- the place of the outermost object, where the text is JSON and has one
unfoldable pub root_place : List ℕ → Option ℕ
root_place s = pick (is_text s) (pick (eqb (get_or s (past_blanks s 0) 0) (code "{")) (Some (past_blanks s 0)) None) None

-- its member of a name
unfoldable pub of_root : List ℕ → List ℕ → Option ℕ → Found
of_root s w (Some k) = found_of s w in_root k
of_root s w None = Nothing

-- the members that a list may have
unfoldable pub servers_member : List ℕ → Found
servers_member s = of_root s servers_name (root_place s)

unfoldable pub sources_member : List ℕ → Found
sources_member s = of_root s sources_name (root_place s)

unfoldable pub reports_member : List ℕ → Found
reports_member s = of_root s reports_name (root_place s)

-- the places of the server objects
unfoldable pub server_places : List ℕ → List ℕ
server_places s = places_in s in_servers (array_of s (servers_member s))

-- the text is a server list
unfoldable pub is_list : List ℕ → Bool
is_list s =
    both (is_there (array_of s (servers_member s))) (both (sources_good s (sources_member s))
    (both (reports_good s (reports_member s)) (all_servers s (server_places s))))

-- what it says
unfoldable pub listed : List ℕ → Listed
listed s = record {
  servers = servers_at s (server_places s);
  sources = urls_at s (source_places s (sources_member s));
  reports = text_by s (reports_member s);
}

pub data Lists : Type 0 where
  this : Listed → Lists
  unread : Lists

unfoldable pub list_of : List ℕ → Lists
list_of s = pick (is_list s) (this (listed s)) unread
