-- A list of characters, of elements or of members is read by turns. A turn is a function of the place that it starts
-- at.
use Rattle.std.specs.Prelude.{ℕ, zero, suc, List, [], ◌∷◌, None, Option, Some}
use Rattle.json_tokens.specs.declared.Step.{Step}
use Rattle.json_tokens.specs.declared.Step.TheVariants.{More, End, Wrong}

-- where a turn is the last, what it says; else what the rest says
unfoldable pub onward : Step → (ℕ → Option ℕ) → Option ℕ
onward (More j) rest = rest j
onward (End e) rest = Some e
onward Wrong rest = None

-- at most n turns, from a place on
unfoldable pub walk : ℕ → (ℕ → Step) → ℕ → Option ℕ
walk zero f k = None
walk (suc n) f k = onward (f k) (walk n f)

-- as many turns as it takes in a text of n bytes: each turn takes a byte or more (proofs/Turns: `fuel`)
abbrev pub walked : ℕ → (ℕ → Step) → ℕ → Option ℕ
walked n f k = walk (suc n) f k

unfoldable pub more_of : Step → (ℕ → List ℕ) → List ℕ
more_of (More j) rest = rest j
more_of (End e) rest = []
more_of Wrong rest = []

-- the places at which the turns start, at most n of them
unfoldable pub starts : ℕ → (ℕ → Step) → ℕ → List ℕ
starts zero f k = []
starts (suc n) f k = k ∷ more_of (f k) (starts n f)
