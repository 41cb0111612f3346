-- The places at which a test holds: how many there are, and what stands at them.
use Rattle.std.specs.Prelude.{Bool, cond, List, [], ◌∷◌, ◌++◌, ℕ, zero, suc}

-- at how many of the first n places the test holds
unfoldable pub how_many : (ℕ → Bool) → ℕ → ℕ
how_many p zero = 0
how_many p (suc n) = cond (p n) (suc (how_many p n)) (how_many p n)

-- what f says of these places, in their order
unfoldable pub picked : {A : Type 0} → (ℕ → Bool) → (ℕ → A) → ℕ → List A
picked p f zero = []
picked p f (suc n) = cond (p n) (picked p f n ++ (f n ∷ [])) (picked p f n)
