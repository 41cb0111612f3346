-- string = quotation-mark *char quotation-mark (RFC 8259, section 7). The text is UTF-8 (section 8.1): a byte sequence
-- that RFC 3629 does not allow is no character.
use Prim.Native.Char.{code}
use Rattle.std.specs.Prelude.{ℕ, suc, ◌+◌, ◌*◌, ◌-◌, ◌%◌, ◌≤◌, Bool, true, false, not, ◌&&◌, List, [], ◌∷◌, ◌++◌, ◌≡◌, eqb, leb, ltb, length, get_or, drop, None, Option, Some}
use Rattle.json_tokens.specs.declared.Step.{Step}
use Rattle.json_tokens.specs.declared.Step.TheVariants.{More, End, Wrong}
use Rattle.json_strings.specs.declared.Unit.{Unit}
use Rattle.json_strings.specs.declared.Unit.TheVariants.{Code, Close, Ill}
use Rattle.laws.specs.Pick.{pick, both}
use Rattle.json_tokens.specs.Walk.{walked, starts}

-- a number, where 0 is none
abbrev pub told : ℕ → Option ℕ
told n = pick (eqb n 0) None (Some n)

-- what \" \\ \/ \b \f \n \r \t stand for, by their numbers in section 7's table; 0 for any other letter
unfoldable pub escape_of : ℕ → ℕ
escape_of b =
    pick (eqb b (code "\"")) 0x22 (pick (eqb b (code "\\")) 0x5C (pick (eqb b (code "/")) 0x2F
    (pick (eqb b (code "b")) 0x08 (pick (eqb b (code "f")) 0x0C (pick (eqb b (code "n")) 0x0A
    (pick (eqb b (code "r")) 0x0D (pick (eqb b (code "t")) 0x09 0)))))))

-- HEXDIG, in either case; 16 for any other letter
unfoldable pub nibble_of : ℕ → ℕ
nibble_of b =
    pick (ltb b (code "0")) 16 (pick (leb b (code "9")) (b - code "0")
    (pick (ltb b (code "A")) 16 (pick (leb b (code "F")) (b - code "A" + 10)
    (pick (ltb b (code "a")) 16 (pick (leb b (code "f")) (b - code "a" + 10) 16)))))

unfoldable pub nibble_at : List ℕ → ℕ → ℕ
nibble_at s at = nibble_of (get_or s at 0)

-- 4HEXDIG
unfoldable pub hex_at : List ℕ → ℕ → Unit
hex_at s at =
    pick (eqb (nibble_at s at) 16) Ill (pick (eqb (nibble_at s (at + 1)) 16) Ill
    (pick (eqb (nibble_at s (at + 2)) 16) Ill (pick (eqb (nibble_at s (at + 3)) 16) Ill
    (Code (4096 * nibble_at s at + 256 * nibble_at s (at + 1) + 16 * nibble_at s (at + 2) + nibble_at s (at + 3))
    (at + 4)))))

-- what follows a backslash
unfoldable pub escape_at : List ℕ → ℕ → Unit
escape_at s at =
    pick (eqb (get_or s at 0) (code "u")) (hex_at s (at + 1))
    (pick (eqb (escape_of (get_or s at 0)) 0) Ill (Code (escape_of (get_or s at 0)) (at + 1)))

-- the number of a character that is written as \u00 and two digits; 256 for any other
unfoldable pub latin_at : List ℕ → ℕ → ℕ
latin_at s at =
    pick (eqb (get_or s at 0) (code "\\")) (pick (eqb (get_or s (at + 1) 0) (code "u"))
    (pick (eqb (get_or s (at + 2) 0) (code "0")) (pick (eqb (get_or s (at + 3) 0) (code "0"))
    (pick (eqb (nibble_at s (at + 4)) 16) 256 (pick (eqb (nibble_at s (at + 5)) 16) 256
    (16 * nibble_at s (at + 4) + nibble_at s (at + 5)))) 256) 256) 256) 256

-- RFC 3629, section 4. The second byte of a character: mostly UTF8-tail = %x80-BF, and less after four of the first
-- bytes
unfoldable pub least_second : ℕ → ℕ
least_second b = pick (eqb b 0xE0) 0xA0 (pick (eqb b 0xF0) 0x90 0x80)

unfoldable pub most_second : ℕ → ℕ
most_second b = pick (eqb b 0xED) 0x9F (pick (eqb b 0xF4) 0x8F 0xBF)

unfoldable pub second_at : List ℕ → ℕ → Bool
second_at s at =
    both (leb (least_second (get_or s at 0)) (get_or s (at + 1) 0)) (leb (get_or s (at + 1) 0) (most_second (get_or s at 0)))

unfoldable pub tail_at : List ℕ → ℕ → Bool
tail_at s at = both (leb 0x80 (get_or s at 0)) (leb (get_or s at 0) 0xBF)

-- RFC 3629, section 3: each byte behind the first, 10xxxxxx, has six bits more of the character's number
unfoldable pub more_bits : ℕ → ℕ → ℕ
more_bits n b = 64 * n + b % 64

-- 110xxxxx 10xxxxxx
unfoldable pub two_at : List ℕ → ℕ → ℕ
two_at s at = more_bits (get_or s at 0 % 32) (get_or s (at + 1) 0)

-- 1110xxxx 10xxxxxx 10xxxxxx
unfoldable pub three_at : List ℕ → ℕ → ℕ
three_at s at = more_bits (more_bits (get_or s at 0 % 16) (get_or s (at + 1) 0)) (get_or s (at + 2) 0)

-- 11110xxx 10xxxxxx 10xxxxxx 10xxxxxx
unfoldable pub four_at : List ℕ → ℕ → ℕ
four_at s at =
    more_bits (more_bits (more_bits (get_or s at 0 % 8) (get_or s (at + 1) 0)) (get_or s (at + 2) 0)) (get_or s (at + 3) 0)

-- UTF8-3 (first byte E0-EF), UTF8-4 (F0-F4), past the second byte
unfoldable pub long_at : List ℕ → ℕ → Unit
long_at s at =
    pick (tail_at s (at + 2)) (pick (ltb (get_or s at 0) 0xF0) (Code (three_at s at) (at + 3))
    (pick (tail_at s (at + 3)) (pick (ltb (get_or s at 0) 0xF5) (Code (four_at s at) (at + 4)) Ill) Ill)) Ill

-- UTF8-2 (first byte C2-DF), or longer
unfoldable pub wide_at : List ℕ → ℕ → Unit
wide_at s at =
    pick (ltb (get_or s at 0) 0xC2) Ill
    (pick (second_at s at) (pick (ltb (get_or s at 0) 0xE0) (Code (two_at s at) (at + 2)) (long_at s at)) Ill)

-- one character of a string, or the closing quote
unfoldable pub unit_at : List ℕ → ℕ → Unit
unit_at s at =
    pick (eqb (get_or s at 0) (code "\"")) (Close (at + 1))
    (pick (eqb (get_or s at 0) (code "\\")) (escape_at s (at + 1))
    (pick (ltb (get_or s at 0) 0x20) Ill
    (pick (ltb (get_or s at 0) 0x80) (Code (get_or s at 0) (at + 1)) (wide_at s at))))

-- unescaped = %x20-21 / %x23-5B / %x5D-10FFFF, where that is one byte: a character that stands for itself
unfoldable pub unescaped : ℕ → Bool
unescaped b = ((not (eqb b (code "\"")) && not (eqb b (code "\\"))) && not (ltb b 0x20)) && ltb b 0x80

abbrev pub step_of : Unit → Step
step_of (Code c k) = More k
step_of (Close k) = End k
step_of Ill = Wrong

-- a turn of a string
unfoldable pub unit_step : List ℕ → ℕ → Step
unit_step s at = step_of (unit_at s at)

-- a whole string, at its opening quote
unfoldable pub string_at : List ℕ → ℕ → Option ℕ
string_at s at = pick (eqb (get_or s at 0) (code "\"")) (walked (length s) (unit_step s) (at + 1)) None

-- a character's number
abbrev pub codes_of : Unit → List ℕ
codes_of (Code c k) = c ∷ []
codes_of (Close k) = []
codes_of Ill = []

unfoldable pub codes_at : List ℕ → List ℕ → List ℕ
codes_at s [] = []
codes_at s (k ∷ ks) = codes_of (unit_at s k) ++ codes_at s ks

-- what a string holds, unescaped (RFC 8259, section 8.3): the numbers of its characters. \u and four digits are one
-- number, also of a surrogate: a character above U+FFFF is one where it stands as UTF-8, and two where it is escaped
-- (section 7). `at` is past the opening quote.
unfoldable pub content_at : List ℕ → ℕ → List ℕ
content_at s at = codes_at s (starts (suc (length s)) (unit_step s) at)

-- two lists are the same
unfoldable pub same_list : List ℕ → List ℕ → Bool
same_list [] [] = true
same_list [] (y ∷ ys) = false
same_list (x ∷ xs) [] = false
same_list (x ∷ xs) (y ∷ ys) = both (eqb x y) (same_list xs ys)

-- ---- For the private functions: what stands at r past as much of a word as stands at a place.
pub record Alike (s : List ℕ) (at : ℕ) (w : List ℕ) (r : ℕ) : Type 0 where
  pub rest : same_list (content_at s r) (drop (r - at) w) ≡ same_list (content_at s at) w
  pub on : at ≤ r
  pub another : unescaped (get_or s r 0) ≡ true → false ≡ same_list (content_at s r) (drop (r - at) w)

-- ---- For `measured`: the string at its opening quote has n characters
pub record Lettered (s : List ℕ) (at n : ℕ) : Type 0 where
  pub long : get_or s at 0 ≡ 34 → length (content_at s (at + 1)) ≡ n
