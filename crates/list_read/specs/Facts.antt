-- For the private functions, and for the crates that read parts of a list: a list of which elements are left, what is
-- seen of a server, and what a survey of a list knows.
use Prim.Native.Char.{code}
use Rattle.std.specs.Prelude.{ℕ, suc, ◌+◌, ◌≤◌, ◌<◌, ◌≡◌, Bool, true, false, List, [], ◌∷◌, ◌++◌, eqb, ltb, length, take, set, replicate, None, Option, Some, Err, Ok, Result}
use Rattle.refusal.specs.declared.Refusal.{Refusal}
use Rattle.refusal.specs.Refusal.{refusal}
use Rattle.laws.specs.Ascii.{ascii}
use Rattle.laws.specs.Pick.{pick, either, both}
use Rattle.json_tokens.specs.declared.Step.{Step}
use Rattle.json_tokens.specs.declared.Step.TheVariants.{More, End}
use Rattle.json_tokens.specs.declared.Step.TheVariants.{Wrong as StepWrong}
use Rattle.json_tokens.specs.Scan.{then_step, after}
use Rattle.json_tokens.specs.Walk.{starts}
use Rattle.json_values.specs.Value.{value_at, item_step}
use Rattle.json_values.specs.declared.Found.{Found}
use Rattle.json_strings.specs.Text.{same_list}
use Rattle.json_text.specs.Octets.{plain}
use Rattle.report_read.specs.Entry.{string_of, elements_of, is64, held}
use Rattle.report_read.specs.Entry.{list_of as array_of}
use Rattle.list_address.specs.Address.{is_address}
use Rattle.list_address.specs.Https.{is_https}
use Rattle.list_read.specs.declared.Sort.{Sort}
use Rattle.list_read.specs.declared.Sort.TheVariants.{Place, Url}
use Rattle.list_read.specs.declared.SeenAddress.{SeenAddress}
use Rattle.list_read.specs.declared.ServerParts.{ServerParts}
use Rattle.list_read.specs.declared.Seen.{Seen}
use Rattle.list_read.specs.declared.Tally.{Tally}
use Rattle.list_read.specs.declared.Survey.{Survey}
use Rattle.list_read.specs.Server.{in_servers, in_addresses, is_some, text_by, version_by, key_by, is_there, is_word, places_in}
use Rattle.list_read.specs.Server.{address_good, all_addresses, addresses_good, askable, server_good, server_at}
use Rattle.list_read.specs.Listed.{sources_good, reports_good, all_servers, servers_at, sources_member, reports_member, server_places, list_of}
use Rattle.list_read.specs.Read.{is_crowded, any_crowded, record_of, passed_over, size_code, list_code}

-- ---- Elements.

-- the places of the elements of the list from the one at k on,
unfoldable pub from : List ℕ → ℕ → ℕ → List ℕ
from s d k = starts (suc (length s)) (item_step s (value_at s d)) k

-- and those from an element on
unfoldable pub left : List ℕ → ℕ → Option ℕ → List ℕ
left s d (Some k) = from s d k
left s d None = []

-- if there is an element, it lies behind the place k, and that lies inside
abbrev pub Behind : List ℕ → ℕ → Option ℕ → Type 0
Behind s k (Some j) = (k < j) × (k < length s)
Behind s k None = Unit {0}

-- the element that a turn leads to, and that behind an element which ends at a place
unfoldable pub element_of : Step → Option ℕ
element_of (More j) = Some j
element_of (End e) = None
element_of StepWrong = None

unfoldable pub past_item : List ℕ → Option ℕ → Option ℕ
past_item s x = element_of (then_step x (after s (code "]")))

-- the first element of the list at v: from it on are all
pub record Opens (s : List ℕ) (d v : ℕ) (x : Option ℕ) : Type 0 where
  pub all : left s d x ≡ elements_of s d v
  pub behind : Behind s v x

-- the element behind the one at k: from it on are the others
pub record Turns (s : List ℕ) (d k : ℕ) (x : Option ℕ) : Type 0 where
  pub others : from s d k ≡ k ∷ left s d x
  pub behind : Behind s k x

-- ---- Texts.

-- what a text is looked at for
unfoldable pub of_sort : Sort → List ℕ → Bool
of_sort Place = is_address
of_sort Url = is_https

-- ---- Servers.

-- what is seen of an address object at a place
unfoldable pub address_seen : List ℕ → ℕ → Option SeenAddress
address_seen s k = pick (address_good s k) (Some record { end = value_at s in_addresses k }) None

-- how many addresses there are, if all are good,
unfoldable pub counted_of : List ℕ → List ℕ → Option ℕ
counted_of s ks = pick (all_addresses s ks) (Some (length ks)) None

-- and if there is a list of them
unfoldable pub counted_in : List ℕ → Option ℕ → Option ℕ
counted_in s (Some v) = counted_of s (elements_of s in_addresses v)
counted_in s None = None

-- the five members, by what is found of each: all good; a server that we can ask; too many addresses
unfoldable pub parts_good : List ℕ → ServerParts → Bool
parts_good s p =
    both (is_some (text_by s p.name)) (both (is_some (version_by s p.version)) (both (is_there (string_of s p.scheme))
    (both (is64 (key_by s p.key)) (addresses_good s (array_of s p.addresses)))))

unfoldable pub may_ask : List ℕ → Found → Option ℕ → ℕ → Bool
may_ask s version scheme n =
    both (is_word s scheme (ascii "ed25519")) (both (same_list (plain (version_by s version)) (ascii "1")) (eqb n 32))

unfoldable pub seen_by : List ℕ → ServerParts → Option ℕ → Option Seen
seen_by s p end =
    pick (parts_good s p)
    (Some record {
      asks = may_ask s p.version (string_of s p.scheme) (length (held (key_by s p.key)));
      crowded = ltb 8 (length (places_in s in_addresses (array_of s p.addresses)));
      end = end;
    })
    None

-- the same of the server object at a place, with its end
unfoldable pub seen_of : List ℕ → ℕ → Option Seen
seen_of s k =
    pick (server_good s k)
    (Some record { asks = askable (server_at s k); crowded = is_crowded (server_at s k); end = value_at s in_servers k })
    None

-- of the places of server objects those of servers that we can ask
unfoldable pub ask_places : List ℕ → List ℕ → List ℕ
ask_places s [] = []
ask_places s (k ∷ ks) = pick (askable (server_at s k)) (k ∷ ask_places s ks) (ask_places s ks)

-- each of them lies in the text and can be asked
unfoldable pub can_ask : List ℕ → ℕ → Bool
can_ask s k = both (ltb k (length s)) (askable (server_at s k))

unfoldable pub all_ask : List ℕ → List ℕ → Bool
all_ask s [] = true
all_ask s (k ∷ ks) = both (can_ask s k) (all_ask s ks)

-- and their records
unfoldable pub records_at : List ℕ → List ℕ → List ℕ
records_at s [] = []
records_at s (k ∷ ks) = record_of (server_at s k) ++ records_at s ks

-- a place more, where there is room
unfoldable pub kept_of : List ℕ → ℕ → ℕ → Bool → List ℕ
kept_of places m k asks = pick asks (pick (ltb m 64) (set places m k) places) places

-- no server yet
unfoldable pub blank_tally : Tally
blank_tally = record { count = 0; asked = 0; crowded = false; places = replicate 64 0 }

-- a server more
pub record Counts (t : Tally) (k : ℕ) (seen : Seen) (r : Tally) : Type 0 where
  pub count : r.count ≡ t.count + 1
  pub asked : r.asked ≡ pick seen.asks (t.asked + 1) t.asked
  pub crowd : r.crowded ≡ either t.crowded seen.crowded
  pub places : r.places ≡ kept_of t.places t.asked k seen.asks

-- what is counted of good server objects at these places
pub record Tallied (s ks : List ℕ) (n m : ℕ) (big : Bool) (places : List ℕ) : Type 0 where
  pub count : n ≡ length ks
  pub asked : m ≡ length (ask_places s ks)
  pub crowded : big ≡ any_crowded (servers_at s ks)
  pub kept : n ≤ 64 → take m places ≡ ask_places s ks

abbrev pub Tells : List ℕ → List ℕ → Option Tally → Type 0
Tells s ks (Some t) = (all_servers s ks ≡ true) × Tallied s ks t.count t.asked t.crowded t.places
Tells s ks None = all_servers s ks ≡ false

-- no server, more than 64, or one with too many addresses
unfoldable pub miscounted : ℕ → Bool → Bool
miscounted n crowded = either (eqb n 0) (either (ltb 64 n) crowded)

-- ---- A survey of a list that is not refused: how many servers can be asked and how many are passed over, the places of
-- the former, and the members that a list may have.
pub record Known (s ks : List ℕ) (f g : Found) (r : Survey) : Type 0 where
  pub asked : r.asked ≡ length (ask_places s ks)
  pub passed : r.passed ≡ passed_over (servers_at s ks)
  pub places : take r.asked r.places ≡ ask_places s ks
  pub sources : r.sources ≡ f
  pub reports : r.reports ≡ g

-- an answer, where n is the number of the refusal, 24 or 25, or 0
abbrev pub Answers : ℕ → (Survey → Type 0) → Result Survey Refusal → Type 0
Answers n K (Ok y) = (n ≡ 0) × K y
Answers n K (Err why) = (why ≡ refusal n) × (n ≡ 0 → ⊥)

-- by the places of the servers, where the other members are good,
abbrev pub Finds : List ℕ → List ℕ → Found → Found → Result Survey Refusal → Type 0
Finds s ks f g r = Answers (pick (all_servers s ks) (size_code (servers_at s ks)) 24) (Known s ks f g) r

-- by those members of the outermost object,
unfoldable pub members_good : List ℕ → Found → Found → Found → Bool
members_good s a f g =
    both (is_there (array_of s a)) (both (sources_good s f) (both (reports_good s g)
    (all_servers s (places_in s in_servers (array_of s a)))))

abbrev pub SurveysBy : List ℕ → Found → Found → Found → Result Survey Refusal → Type 0
SurveysBy s a f g r =
    Answers (pick (members_good s a f g) (size_code (servers_at s (places_in s in_servers (array_of s a)))) 24)
    (Known s (places_in s in_servers (array_of s a)) f g) r

-- and of a text
abbrev pub Surveys : List ℕ → Result Survey Refusal → Type 0
Surveys s r = Answers (list_code (list_of s)) (Known s (server_places s) (sources_member s) (reports_member s)) r
