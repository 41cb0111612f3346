-- Byte strings by their bytes.
use Rattle.std.specs.Prelude.{ℕ, ◌-◌, Bool, List, eqb, leb, length, get_or}
use Rattle.laws.specs.Pick.{both}
use Rattle.json_tokens.specs.Scan.{past_while}

-- each byte passes the test: the first that does not lies past the end
unfoldable pub every : (ℕ → Bool) → List ℕ → Bool
every p x = eqb (past_while p x 0) (length x)

-- 1 to n bytes, each of which passes
unfoldable pub is_run : (ℕ → Bool) → ℕ → List ℕ → Bool
is_run p n x = both (leb 1 (length x)) (both (leb (length x) n) (every p x))

-- the last byte, and 0 where there is none
abbrev pub last_byte : List ℕ → ℕ
last_byte x = get_or x (length x - 1) 0
