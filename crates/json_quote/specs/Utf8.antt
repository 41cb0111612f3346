-- UTF8-octets = *( UTF8-char ) (RFC 3629, section 4).
use Rattle.std.specs.Prelude.{ℕ, ◌+◌, Bool, true, false, List, leb, ltb, length, get_or, None, Option, Some}
use Rattle.laws.specs.Pick.{pick}
use Rattle.json_tokens.specs.declared.Step.{Step}
use Rattle.json_tokens.specs.declared.Step.TheVariants.{More, End}
use Rattle.json_tokens.specs.Walk.{walked}
use Rattle.json_strings.specs.Text.{unit_step}

-- one character: UTF8-1 is any octet below 80, also one that no string of JSON holds as it is. A longer character is
-- one that a string holds.
unfoldable pub char_step : List ℕ → ℕ → Step
char_step x at =
    pick (leb (length x) at) (End at) (pick (ltb (get_or x at 0) 0x80) (More (at + 1)) (unit_step x at))

abbrev pub reached : Option ℕ → Bool
reached (Some e) = true
reached None = false

-- characters up to the end
unfoldable pub is_utf8 : List ℕ → Bool
is_utf8 x = reached (walked (length x) (char_step x) 0)
