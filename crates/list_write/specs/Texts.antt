-- The text of a server list as we write it (draft 19, section 8.3): no blanks, the members in the order in which that
-- section names them.
use Rattle.std.specs.Prelude.{ℕ, Bool, true, false, List, [], ◌∷◌, eqb, length, take, drop}
use Rattle.base64_strict.specs.Encode.{encode64}
use Rattle.laws.specs.Ascii.{ascii}
use Rattle.laws.specs.Flat.{flat}
use Rattle.laws.specs.Pick.{pick}
use Rattle.json_quote.specs.Quoted.{quoted}
use Rattle.list_write.specs.declared.Item.{Item}
use Rattle.list_write.specs.declared.Item.TheVariants.{Source, Address}
use Rattle.list_write.specs.Decimal.{decimal}
use Rattle.list_write.specs.Lines.{lines_of, line_text}
use Rattle.list_write.specs.Given.{Given}

-- the comma before every element of an array but the first
unfoldable pub separator : Bool → List ℕ
separator true = []
separator false = ascii ","

-- elements with commas between them, and the closing bracket
unfoldable pub row : {A : Type 0} → (A → List ℕ) → Bool → List A → List ℕ
row f first [] = ascii "]"
row f first (x ∷ xs) = flat (separator first ∷ f x ∷ row f false xs ∷ [])

-- ---- Lines.

-- an address, from its line: the protocol has three letters, and a blank stands behind it
unfoldable pub address_text : List ℕ → List ℕ
address_text t =
    flat (ascii "{\"protocol\":\"" ∷ take 3 t ∷ ascii "\",\"address\":" ∷ quoted (drop 4 t) ∷ ascii "}" ∷ [])

-- what a line holds
unfoldable pub item_text : Item → List ℕ → List ℕ
item_text Source t = quoted t
item_text Address t = address_text t

unfoldable pub element_text : Item → List ℕ → List ℕ
element_text item l = item_text item (line_text l)

unfoldable pub items_text : Item → List (List ℕ) → List ℕ
items_text item ls = row (element_text item) true ls

-- ---- Servers.

unfoldable pub head_text : List ℕ → ℕ → List ℕ
head_text name version = flat (ascii "{\"name\":" ∷ quoted name ∷ ascii ",\"version\":" ∷ decimal version ∷ [])

unfoldable pub key_text : List ℕ → List ℕ
key_text key =
    flat (ascii ",\"publicKeyType\":\"ed25519\",\"publicKey\":\"" ∷ encode64 key ∷ ascii "\",\"addresses\":[" ∷ [])

unfoldable pub server_text : Given → List ℕ
server_text g =
    flat
    (head_text g.name g.version ∷ key_text g.key ∷ items_text Address (lines_of g.addresses) ∷ ascii "}" ∷ [])

unfoldable pub servers_text : List Given → List ℕ
servers_text gs = row server_text true gs

-- ---- The list.

-- no member where no source is lent,
unfoldable pub sources_text : List ℕ → List ℕ
sources_text s =
    pick (eqb (length s) 0) [] (flat (ascii ",\"sources\":[" ∷ items_text Source (lines_of s) ∷ []))

-- and none where no URL for reports is
unfoldable pub reports_text : List ℕ → List ℕ
reports_text u = pick (eqb (length u) 0) [] (flat (ascii ",\"reports\":" ∷ quoted u ∷ []))

unfoldable pub list_text : List Given → List ℕ → List ℕ → List ℕ
list_text gs sources reports =
    flat
    (ascii "{\"servers\":[" ∷ servers_text gs ∷ sources_text sources ∷ reports_text reports ∷ ascii "}" ∷ [])
