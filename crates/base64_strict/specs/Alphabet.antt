-- RFC 4648, table 1: 0 to 25 are A to Z, 26 to 51 a to z, 52 to 61 0 to 9, 62 is + and 63 is /.
use Prim.Native.Char.{code}
use Rattle.std.specs.Prelude.{ℕ, ◌+◌, ◌-◌, Bool, not, List, eqb, leb, ltb, None, Option, Some}
use Rattle.laws.specs.Ascii.{ascii}
use Rattle.laws.specs.Pick.{pick}

-- the letter of a number below 64
unfoldable pub letter_of : ℕ → ℕ
letter_of n =
    pick (ltb n 26) (n + code "A") (pick (ltb n 52) (n - 26 + code "a") (pick (ltb n 62) (n - 52 + code "0")
    (pick (eqb n 62) (code "+") (code "/"))))

-- For the private functions: the letters of 0 to 63, as a list
abbrev pub letters : List ℕ
letters = ascii "ABCDEFGHIJKLMNOPQRSTUVWXYZabcdefghijklmnopqrstuvwxyz0123456789+/"

-- the number of a letter, and 64 for what is no letter
unfoldable pub sextet_of : ℕ → ℕ
sextet_of c =
    pick (eqb c (code "+")) 62 (pick (eqb c (code "/")) 63
    (pick (ltb c (code "0")) 64 (pick (leb c (code "9")) (c - code "0" + 52)
    (pick (ltb c (code "A")) 64 (pick (leb c (code "Z")) (c - code "A")
    (pick (ltb c (code "a")) 64 (pick (leb c (code "z")) (c - code "a" + 26) 64)))))))

-- a letter of the alphabet
unfoldable pub is_letter : ℕ → Bool
is_letter c = not (eqb (sextet_of c) 64)

-- the number of a letter, where a character is one
abbrev pub number_of : ℕ → Option ℕ
number_of c = pick (is_letter c) (Some (sextet_of c)) None

-- the pad character
abbrev pub pad : ℕ
pad = code "="
