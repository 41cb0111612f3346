-- Tests on bytes, and the small readers that every other is made of (RFC 8259, section 2).
-- A text is the list of its bytes. `get_or s k 0` is the byte at k, 0 past the end; no token has the byte 0.
use Prim.Native.Char.{code}
use Rattle.std.specs.Prelude.{ℕ, suc, ◌+◌, ◌≤◌, ◌<◌, ◌≡◌, Bool, true, false, List, [], ◌∷◌, eqb, leb, length, get_or, drop, None, Option, Some}
use Rattle.laws.specs.Pick.{pick, either, both}
use Rattle.json_tokens.specs.declared.Step.{Step}
use Rattle.json_tokens.specs.declared.Step.TheVariants.{More, End, Wrong}

-- one reader after another
unfoldable pub then : Option ℕ → (ℕ → Option ℕ) → Option ℕ
then (Some e) f = f e
then None f = None

unfoldable pub then_step : Option ℕ → (ℕ → Step) → Step
then_step (Some e) f = f e
then_step None f = Wrong

-- ws = *( %x20 / %x09 / %x0A / %x0D )
abbrev pub blank : ℕ → Bool
blank b = either (eqb b (code " ")) (either (eqb b (code "\t")) (either (eqb b (code "\n")) (eqb b (code "\r"))))

abbrev pub digit : ℕ → Bool
digit b = both (leb (code "0") b) (leb b (code "9"))

-- how many bytes at the front pass the test
abbrev pub run : (ℕ → Bool) → List ℕ → ℕ
run p [] = 0
run p (x ∷ xs) = pick (p x) (suc (run p xs)) 0

-- the first place from `at` on whose byte does not pass
unfoldable pub past_while : (ℕ → Bool) → List ℕ → ℕ → ℕ
past_while p s at = at + run p (drop at s)

-- the same place, by what a test may answer: it may say b of x where `P x b`
pub record StopsAt (P : ℕ → Bool → Type 0) (s : List ℕ) (at r : ℕ) : Type 0 where
  pub on : at ≤ r
  pub within : at < r → r ≤ length s
  pub passed : (k : ℕ) → at ≤ k → k < r → P (get_or s k 0) true
  pub stopped : r < length s → P (get_or s r 0) false

-- For the private functions: each of the n bytes at a place passes.
abbrev pub Passes : (ℕ → Bool) → List ℕ → ℕ → ℕ → Type 0
Passes p s at n = (i : ℕ) → i < n → p (get_or s (at + i) 0) ≡ true

abbrev pub past_blanks : List ℕ → ℕ → ℕ
past_blanks = past_while blank

-- the list starts with the word
abbrev pub starts_with : List ℕ → List ℕ → Bool
starts_with [] xs = true
starts_with (x ∷ w) [] = false
starts_with (x ∷ w) (y ∷ ys) = both (eqb x y) (starts_with w ys)

-- value-separator, or the list's closing bracket, each with blanks before it and the separator with blanks after
unfoldable pub after : List ℕ → ℕ → ℕ → Step
after s close at =
    pick (eqb (get_or s (past_blanks s at) 0) close) (End (past_blanks s at + 1))
    (pick (eqb (get_or s (past_blanks s at) 0) (code ",")) (More (past_blanks s (past_blanks s at + 1))) Wrong)

-- name-separator = ws %x3A ws
unfoldable pub past_colon : List ℕ → ℕ → Option ℕ
past_colon s at = pick (eqb (get_or s (past_blanks s at) 0) (code ":")) (Some (past_blanks s (past_blanks s at + 1))) None
