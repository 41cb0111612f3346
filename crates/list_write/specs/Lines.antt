-- Lines, and what they are to hold.
use Prim.Native.Char.{code}
use Rattle.std.specs.Prelude.{ℕ, suc, ◌-◌, Bool, true, List, [], ◌∷◌, eqb, leb, length, take, drop, get_or}
use Rattle.laws.specs.Ascii.{ascii}
use Rattle.laws.specs.Pick.{pick, either, both}
use Rattle.laws.specs.Same.{same}
use Rattle.list_address.specs.Address.{is_address}
use Rattle.list_address.specs.Https.{is_https}
use Rattle.list_write.specs.declared.Item.{Item}
use Rattle.list_write.specs.declared.Item.TheVariants.{Source, Address}

-- an octet before the first line
unfoldable pub on_line : ℕ → List (List ℕ) → List (List ℕ)
on_line x [] = (x ∷ []) ∷ []
on_line x (l ∷ ls) = (x ∷ l) ∷ ls

-- the lines, each up to its line feed, which counts to it; the last may have none
unfoldable pub lines_of : List ℕ → List (List ℕ)
lines_of [] = []
lines_of (x ∷ xs) = pick (eqb x (code "\n")) ((x ∷ []) ∷ lines_of xs) (on_line x (lines_of xs))

-- that a line has one, and what stands before it
unfoldable pub ended : List ℕ → Bool
ended l = eqb (get_or l (length l - 1) 0) (code "\n")

unfoldable pub line_text : List ℕ → List ℕ
line_text l = take (length l - 1) l

-- the longest text of an address or a URL that is read
abbrev pub longest : ℕ
longest = 2048

-- "Each string is a URL .. The URI scheme MUST be HTTPS"
unfoldable pub is_url : List ℕ → Bool
is_url t = both (leb (length t) longest) (is_https t)

-- `udp HOST:PORT` or `tcp HOST:PORT`
unfoldable pub is_protocol : List ℕ → Bool
is_protocol w = either (same w (ascii "udp ")) (same w (ascii "tcp "))

unfoldable pub is_address_line : List ℕ → Bool
is_address_line t =
    both (is_protocol (take 4 t)) (both (leb (length (drop 4 t)) longest) (is_address (drop 4 t)))

-- what a line is to hold
unfoldable pub is_item : Item → List ℕ → Bool
is_item Source t = is_url t
is_item Address t = is_address_line t

unfoldable pub item_good : Item → List ℕ → Bool
item_good item l = both (ended l) (is_item item (line_text l))

unfoldable pub all_good : Item → List (List ℕ) → Bool
all_good item [] = true
all_good item (l ∷ ls) = both (item_good item l) (all_good item ls)

-- For the private functions: how long the first line is.
unfoldable pub line_size : List ℕ → ℕ
line_size [] = 0
line_size (x ∷ xs) = pick (eqb x (code "\n")) 1 (suc (line_size xs))
