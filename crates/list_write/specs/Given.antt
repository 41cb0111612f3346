-- What is lent of one server, and what is refused of it.
use Rattle.std.specs.Prelude.{ℕ, Bool, List, eqb, ltb, length}
use Rattle.laws.specs.Pick.{pick, either, both}
use Rattle.json_quote.specs.Utf8.{is_utf8}
use Rattle.list_write.specs.declared.Item.TheVariants.{Address}
use Rattle.list_write.specs.Lines.{lines_of, all_good, is_url}

-- its name as UTF-8, the number of its version, its key, and the lines of its addresses
pub record Given : Type 0 where
  pub name : List ℕ
  pub version : ℕ
  pub key : List ℕ
  pub addresses : List ℕ

abbrev pub given : List ℕ → ℕ → List ℕ → List ℕ → Given
given n v k a = record { name = n; version = v; key = k; addresses = a }

-- the name is UTF-8, and each line an address
unfoldable pub good_server : List ℕ → List ℕ → Bool
good_server name addresses = both (is_utf8 name) (all_good Address (lines_of addresses))

-- more than 8 addresses
unfoldable pub is_crowded : List ℕ → Bool
is_crowded addresses = ltb 8 (length (lines_of addresses))

-- 24 where it cannot be written, 25 where it has too many addresses
unfoldable pub server_code : List ℕ → List ℕ → ℕ
server_code name addresses = pick (good_server name addresses) (pick (is_crowded addresses) 25 0) 24

-- the URL for reports is one, or is left out
unfoldable pub good_reports : List ℕ → Bool
good_reports u = either (eqb (length u) 0) (is_url u)
