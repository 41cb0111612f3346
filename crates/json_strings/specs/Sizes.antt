-- For the private functions: characters that are more than a byte, by how many bytes they take (RFC 3629, section 4), and
-- those that are escaped by four digits (RFC 8259, section 7).
use Prim.Native.Char.{code}
use Rattle.std.specs.Prelude.{ℕ, ◌<◌, ◌+◌, ◌*◌, ◌≤◌, ◌≡◌, Bool, ◌&&◌, ◌||◌, List, eqb, leb, ltb, length, None, Option, Some}
use Rattle.json_tokens.specs.declared.Step.TheVariants.{More}
use Rattle.json_strings.specs.declared.Unit.TheVariants.{Code}
use Rattle.json_strings.specs.Text.{nibble_of, least_second, most_second, unit_at, unit_step}

unfoldable pub is_tail : ℕ → Bool
is_tail b = leb 0x80 b && leb b 0xBF

unfoldable pub is_second : ℕ → ℕ → Bool
is_second a b = leb (least_second a) b && leb b (most_second a)

unfoldable pub is_two : ℕ → ℕ → Bool
is_two a b = (leb 0xC2 a && ltb a 0xE0) && is_tail b

unfoldable pub is_three : ℕ → ℕ → ℕ → Bool
is_three a b c = ((leb 0xE0 a && ltb a 0xF0) && is_second a b) && is_tail c

unfoldable pub is_four : ℕ → ℕ → ℕ → ℕ → Bool
is_four a b c d = (((leb 0xF0 a && ltb a 0xF5) && is_second a b) && is_tail c) && is_tail d

unfoldable pub is_hex : ℕ → Bool
is_hex b =
    ((leb (code "0") b && leb b (code "9")) || (leb (code "a") b && leb b (code "f")))
    || (leb (code "A") b && leb b (code "F"))

unfoldable pub is_quad : ℕ → ℕ → ℕ → ℕ → Bool
is_quad a b c d = ((is_hex a && is_hex b) && is_hex c) && is_hex d

unfoldable pub is_escape : ℕ → ℕ → Bool
is_escape a b = eqb a (code "\\") && eqb b (code "u")

-- a character of n bytes stands at a place
pub record StepsBy (s : List ℕ) (at n : ℕ) : Type 0 where
  pub on : unit_step s at ≡ More (at + n)
  pub fits : at + n ≤ length s
  pub takes : 0 < n

-- None says nothing
abbrev pub Steps : List ℕ → ℕ → Option ℕ → Type 0
Steps s at (Some n) = StepsBy s at n
Steps s at None = record {}

-- the number of four digits
abbrev pub quad_of : ℕ → ℕ → ℕ → ℕ → ℕ
quad_of a b c d = 4096 * nibble_of a + 256 * nibble_of b + 16 * nibble_of c + nibble_of d

-- the number r, which is escaped by four digits, stands at a place
pub record HexedBy (s : List ℕ) (at r : ℕ) : Type 0 where
  pub on : Code r (at + 6) ≡ unit_at s at
  pub fits : at + 6 ≤ length s

-- None says nothing
abbrev pub Hexed : List ℕ → ℕ → Option ℕ → Type 0
Hexed s at (Some r) = HexedBy s at r
Hexed s at None = record {}
