-- The string of a text, as we write it (RFC 8259, section 7): what must be escaped is, and nothing else.
use Prim.Native.Char.{code}
use Rattle.std.specs.Prelude.{ℕ, ◌+◌, ◌-◌, ◌/◌, ◌%◌, List, [], ◌∷◌, ◌++◌, eqb, ltb}
use Rattle.laws.specs.Ascii.{ascii}
use Rattle.laws.specs.Pick.{pick}

-- HEXDIG, in lower case
unfoldable pub hex_of : ℕ → ℕ
hex_of n = pick (ltb n 10) (n + code "0") (n - 10 + code "a")

-- an octet within a string: \" and \\ for these two, \u00 and two digits for the control characters, and any other as
-- it is
unfoldable pub escaped : ℕ → List ℕ
escaped b =
    pick (eqb b (code "\"")) (ascii "\\\"") (pick (eqb b (code "\\")) (ascii "\\\\")
    (pick (ltb b 0x20) (ascii "\\u00" ++ (hex_of (b / 16) ∷ hex_of (b % 16) ∷ [])) (b ∷ [])))

-- octets within a string, and its closing quote
unfoldable pub quoted_rest : List ℕ → List ℕ
quoted_rest [] = code "\"" ∷ []
quoted_rest (b ∷ x) = escaped b ++ quoted_rest x

unfoldable pub quoted : List ℕ → List ℕ
quoted x = code "\"" ∷ quoted_rest x
