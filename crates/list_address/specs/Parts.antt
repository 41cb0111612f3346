-- Byte strings in parts.
use Rattle.std.specs.Prelude.{ℕ, ◌+◌, Bool, true, false, List, [], ◌∷◌, eqb, leb, Option, None, Some}
use Rattle.laws.specs.Pick.{pick}

-- one byte more before the first part
unfoldable pub onto : ℕ → List (List ℕ) → List (List ℕ)
onto b [] = (b ∷ []) ∷ []
onto b (x ∷ xs) = (b ∷ x) ∷ xs

-- the parts of a byte string between the bytes c: one more than there are such bytes, and a part may be empty
unfoldable pub split : ℕ → List ℕ → List (List ℕ)
split c [] = [] ∷ []
split c (b ∷ s) = pick (eqb b c) ([] ∷ split c s) (onto b (split c s))

-- How many parts there are is a number, or None where one of them is wrong.

unfoldable pub plus : ℕ → Option ℕ → Option ℕ
plus n (Some m) = Some (n + m)
plus n None = None

-- how many parts there are, where each but the last is to pass p, and the last is to pass q
unfoldable pub counted : (List ℕ → Bool) → (List ℕ → Bool) → List (List ℕ) → Option ℕ
counted p q [] = Some 0
counted p q (x ∷ []) = pick (q x) (Some 1) None
counted p q (x ∷ y ∷ xs) = pick (p x) (plus 1 (counted p q (y ∷ xs))) None

-- the first, or the other where that is wrong
unfoldable pub or_else : Option ℕ → Option ℕ → Option ℕ
or_else (Some n) d = Some n
or_else None d = d

-- nothing is wrong;
unfoldable pub right : Option ℕ → Bool
right (Some n) = true
right None = false

-- there are just n;
unfoldable pub exactly : ℕ → Option ℕ → Bool
exactly n (Some m) = eqb m n
exactly n None = false

-- and the two together are at most n
unfoldable pub within : ℕ → Option ℕ → Option ℕ → Bool
within n (Some a) (Some b) = leb (a + b) n
within n (Some a) None = false
within n None d = false
