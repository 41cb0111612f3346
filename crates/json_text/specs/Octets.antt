-- The text that a string holds, as octets (RFC 8259, sections 7, 8.1 and 8.2; RFC 3629, section 3). A list of numbers
-- is here what `content_at` says of a string: \u and four digits are one number, also of a surrogate.
use Rattle.std.specs.Prelude.{ℕ, ◌+◌, ◌*◌, ◌-◌, ◌/◌, ◌%◌, Bool, List, [], ◌∷◌, ◌++◌, leb, ltb, length, None, Option, Some}
use Rattle.laws.specs.Pick.{pick, either, both}

-- surrogates: the first of a pair, and the second
unfoldable pub is_high : ℕ → Bool
is_high c = both (leb 0xD800 c) (leb c 0xDBFF)

unfoldable pub is_low : ℕ → Bool
is_low c = both (leb 0xDC00 c) (leb c 0xDFFF)

-- RFC 8259, section 7: a character above U+FFFF is escaped as its pair in UTF-16
unfoldable pub paired : ℕ → ℕ → ℕ
paired h l = 0x10000 + (h - 0xD800) * 0x400 + (l - 0xDC00)

-- the characters: each pair is one, all others stay
unfoldable pub joined : List ℕ → List ℕ
joined [] = []
joined (c ∷ []) = c ∷ []
joined (c ∷ d ∷ l) = pick (both (is_high c) (is_low d)) (paired c d ∷ joined l) (c ∷ joined (d ∷ l))

-- an octet behind the first: 10xxxxxx, the six lowest bits
abbrev pub trailing : ℕ → ℕ
trailing c = 0x80 + c % 64

-- 0xxxxxxx; 110xxxxx 10xxxxxx; 1110xxxx 10xxxxxx 10xxxxxx; 11110xxx 10xxxxxx 10xxxxxx 10xxxxxx
unfoldable pub utf8 : ℕ → List ℕ
utf8 c =
    pick (ltb c 0x80) (c ∷ [])
    (pick (ltb c 0x800) ((0xC0 + c / 64 % 32) ∷ trailing c ∷ [])
    (pick (ltb c 0x10000) ((0xE0 + c / 4096 % 16) ∷ trailing (c / 64) ∷ trailing c ∷ [])
    ((0xF0 + c / 262144 % 8) ∷ trailing (c / 4096) ∷ trailing (c / 64) ∷ trailing c ∷ [])))

-- what a string holds, if that is a text
pub data Text : Type 0 where
  octets : List ℕ → Text
  none : Text

abbrev pub onto : List ℕ → Text → Text
onto xs (octets ys) = octets (xs ++ ys)
onto xs none = none

-- characters one after the other; no surrogate is one (RFC 3629, section 3), and what has one is no text (RFC 8259,
-- section 8.2)
unfoldable pub encoded : List ℕ → Text
encoded [] = octets []
encoded (c ∷ l) = pick (either (is_high c) (is_low c)) none (onto (utf8 c) (encoded l))

unfoldable pub text_of : List ℕ → Text
text_of content = encoded (joined content)

-- the octets; none of what is no text
abbrev pub plain : Text → List ℕ
plain (octets x) = x
plain none = []

-- n octets and those of a text
abbrev pub size_of : ℕ → Text → Option ℕ
size_of n (octets x) = Some (n + length x)
size_of n none = None
