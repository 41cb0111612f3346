-- For the private functions: what is seen of a name after one more member.
use Rattle.std.specs.Prelude.{ℕ, ◌+◌, ◌≤◌, ◌<◌, ◌≡◌, List, eqb, length, get_or, None, Option, Some}
use Rattle.json_tokens.specs.declared.Step.{Step}
use Rattle.json_tokens.specs.declared.Step.TheVariants.{More, End, Wrong}
use Rattle.json_tokens.specs.Scan.{past_blanks}
use Rattle.json_tokens.specs.Walk.{walked}
use Rattle.laws.specs.Pick.{pick}
use Rattle.json_values.specs.declared.Seen.{Seen}
use Rattle.json_values.specs.Members.{named, count_of}

-- the member at k, whose value stands at u, and the name w: where two have the name, no place is asked for
pub record Noted (s w : List ℕ) (k u : ℕ) (t r : Seen) : Type 0 where
  pub n : r.n ≡ count_of (named s w k) t.n
  pub v : (r.n ≡ 2 → ⊥) → r.v ≡ pick (named s w k) u t.v

-- a turn that goes on ends further on, and starts inside the text
abbrev pub Goes : List ℕ → ℕ → Step → Type 0
Goes s k (More j) = (k < j) × (k < length s)
Goes s k (End e) = k ≤ e
Goes s k Wrong = record {}

-- by what a turn may answer
abbrev pub GoesForth : (ℕ → Step → Type 0) → List ℕ → Type 0
GoesForth P s = (k : ℕ) (t : Step) → P k t → Goes s k t

-- a list by its turns, at its bracket
abbrev pub list_of : List ℕ → ℕ → (ℕ → Step) → ℕ → Option ℕ
list_of s close f at =
    pick (eqb (get_or s (past_blanks s (at + 1)) 0) close) (Some (past_blanks s (at + 1) + 1))
    (walked (length s) f (past_blanks s (at + 1)))

-- the same, where what a turn may answer is what f does
abbrev pub ListedBy : (ℕ → Step → Type 0) → List ℕ → ℕ → ℕ → Option ℕ → Type 0
ListedBy P s close at r =
    (f : ℕ → Step) → ((k : ℕ) → Goes s k (f k)) → ((k : ℕ) (t : Step) → P k t → t ≡ f k) → r ≡ list_of s close f at
