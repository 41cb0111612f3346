-- What a list says that is written of what is lent: that the reader finds just this is `round_trip`.
use Rattle.std.specs.Prelude.{ℕ, ◌<◌, ◌≡◌, List, [], ◌∷◌, map, eqb, length, take, drop}
use Rattle.laws.specs.Ascii.{ascii}
use Rattle.laws.specs.Bytes.{Bytes}
use Rattle.laws.specs.Pick.{pick}
use Rattle.laws.specs.Same.{same}
use Rattle.json_text.specs.Octets.{octets, none}
use Rattle.list_read.specs.Server.{Address, Server}
use Rattle.list_read.specs.Listed.{Listed}
use Rattle.list_write.specs.Decimal.{decimal}
use Rattle.list_write.specs.Lines.{lines_of, line_text}
use Rattle.list_write.specs.Given.{Given}

-- an address, from its line
unfoldable pub address_given : List ℕ → Address
address_given l = record {
  tcp = same (take 4 (line_text l)) (ascii "tcp ");
  address = drop 4 (line_text l);
}

-- a server: its name, its key and its addresses as they were lent, and its version in decimal
unfoldable pub server_given : Given → Server
server_given g = record {
  name = g.name;
  version = decimal g.version;
  scheme = ascii "ed25519";
  key = g.key;
  addresses = map address_given (lines_of g.addresses);
}

-- the list, with no reports where an empty URL was lent
unfoldable pub list_given : List Given → List ℕ → List ℕ → Listed
list_given gs sources reports = record {
  servers = map server_given gs;
  sources = map line_text (lines_of sources);
  reports = pick (eqb (length reports) 0) none (octets reports);
}

-- those that this library can ask: the ones of version 1
unfoldable pub of_one : List Given → List Given
of_one [] = []
of_one (g ∷ gs) = pick (eqb g.version 1) (g ∷ of_one gs) (of_one gs)

-- a version is a number of 32 bits, and a key is 32 bytes
pub record Lendable (g : Given) : Type 0 where
  pub version : g.version < 4294967296
  pub key : Bytes g.key
  pub long : length g.key ≡ 32

pub data AllLendable : List Given → Type 0 where
  no-server : AllLendable []
  a-server : {g : Given} {gs : List Given} → Lendable g → AllLendable gs → AllLendable (g ∷ gs)
