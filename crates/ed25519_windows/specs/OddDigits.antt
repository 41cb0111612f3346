-- A scalar as odd digits from -15 to 15, one to a bit and lowest first. A digit that is taken off has 16 more, and 0 is
-- none. For contracts of helpers.
use Rattle.std.specs.Prelude.{ℕ, ◌+◌, ◌*◌, ◌%◌, ◌≤◌, ◌≡◌, Bool, cond, List, [], ◌∷◌, leb, length, get_or}

-- 0, or an odd number
abbrev pub Digit : ℕ → Type 0
Digit b = (b ≡ 0 → ⊥) → b % 2 ≡ 1

-- how far a digit is from 0, and whether it is taken off
abbrev pub size_of : ℕ → ℕ
size_of b = b % 16

abbrev pub off_of : ℕ → Bool
off_of b = leb 16 b

-- what a digit adds, and what it takes off
unfoldable pub plus_of : ℕ → ℕ
plus_of b = cond (off_of b) 0 (size_of b)

unfoldable pub less_of : ℕ → ℕ
less_of b = cond (off_of b) (size_of b) 0

-- the number whose digits at radix 2 are what f makes of a list
unfoldable pub total : (ℕ → ℕ) → List ℕ → ℕ
total f [] = 0
total f (b ∷ bs) = f b + 2 * total f bs

-- t has the digits of v
pub record Recoded (v : ℕ) (t : List ℕ) : Type 0 where
  pub long : length t ≡ 256
  pub odd : (j : ℕ) → Digit (get_or t j 0)
  pub is : total plus_of t ≡ v + total less_of t

-- t has no digit from i on
pub record Above (t : List ℕ) (i : ℕ) : Type 0 where
  pub low : i ≤ 256
  pub none : (j : ℕ) → i ≤ j → get_or t j 0 ≡ 0
