-- Numbers in decimal.
use Prim.Native.Char.{code}
use Rattle.std.specs.Prelude.{ℕ, zero, suc, ◌+◌, ◌/◌, ◌%◌, ◌≤◌, ◌≡◌, List, [], ◌∷◌, ◌++◌, ltb, length, drop}
use Rattle.laws.specs.Pick.{pick}

-- n in decimal: its tens, where it has any, and then its last digit; of a longer number the last k digits
unfoldable pub decimal_in : ℕ → ℕ → List ℕ
decimal_in zero n = []
decimal_in (suc k) n = pick (ltb n 10) [] (decimal_in k (n / 10)) ++ ((code "0" + n % 10) ∷ [])

-- a number of 32 bits has 10 digits at most
unfoldable pub decimal : ℕ → List ℕ
decimal n = decimal_in 10 n

-- For the private functions: the digits of x end with a text of 10 bytes, and start at an index of it.
pub record Spelt (x : ℕ) (text : List ℕ) (from : ℕ) : Type 0 where
  pub long : length text ≡ 10
  pub inside : from ≤ 9
  pub is : drop from text ≡ decimal x
