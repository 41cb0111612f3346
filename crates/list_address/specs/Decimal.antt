-- Numbers in decimal digits.
use Prim.Native.Char.{code}
use Rattle.std.specs.Prelude.{ℕ, ◌+◌, ◌-◌, ◌*◌, Bool, not, List, [], ◌∷◌, eqb, leb, length, get_or}
use Rattle.laws.specs.Pick.{either, both}
use Rattle.json_tokens.specs.Scan.{digit}
use Rattle.list_address.specs.Runs.{is_run}

-- the number that is written as the digits of n and then these
unfoldable pub worth : ℕ → List ℕ → ℕ
worth n [] = n
worth n (d ∷ ds) = worth (10 * n + (d - code "0")) ds

-- no zero stands before other digits
unfoldable pub unpadded : List ℕ → Bool
unpadded x = either (eqb (length x) 1) (not (eqb (get_or x 0 0) (code "0")))

-- 1 to `wide` digits, and a number that is at most `most`
unfoldable pub is_decimal : ℕ → ℕ → List ℕ → Bool
is_decimal wide most x = both (is_run digit wide x) (both (unpadded x) (leb (worth 0 x) most))

-- a part of an IPv4 address,
unfoldable pub is_octet : List ℕ → Bool
is_octet x = is_decimal 3 255 x

-- and a port of UDP or TCP
unfoldable pub is_port : List ℕ → Bool
is_port x = is_decimal 5 65535 x
