-- Tests on bytes.
use Prim.Native.Char.{code}
use Rattle.std.specs.Prelude.{ℕ, Bool, List, eqb, leb, length, get_or}
use Rattle.laws.specs.Ascii.{ascii}
use Rattle.laws.specs.Least.{somewhere}
use Rattle.laws.specs.Pick.{either, both}
use Rattle.json_tokens.specs.Scan.{digit}

abbrev pub between : ℕ → ℕ → ℕ → Bool
between low high b = both (leb low b) (leb b high)

unfoldable pub letter : ℕ → Bool
letter b = either (between (code "a") (code "z") b) (between (code "A") (code "Z") b)

unfoldable pub hex_digit : ℕ → Bool
hex_digit b = either (digit b) (either (between (code "a") (code "f") b) (between (code "A") (code "F") b))

-- letters, digits and the hyphen (RFC 1035, section 2.3.1)
unfoldable pub label_char : ℕ → Bool
label_char b = either (digit b) (either (letter b) (eqb b (code "-")))

-- one of the bytes of w
unfoldable pub one_of : List ℕ → ℕ → Bool
one_of w b = somewhere (λ k. eqb (get_or w k 0) b) (length w)

-- pchar but for what is written with a percent sign, "/" and "?" (RFC 3986, appendix A)
unfoldable pub url_char : ℕ → Bool
url_char b = either (label_char b) (one_of (ascii "._~!$&'()*+,;=:@/?") b)
