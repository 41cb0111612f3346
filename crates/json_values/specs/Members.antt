-- The members of an object, by name (RFC 8259, sections 4 and 8.3): names are compared after unescaping.
use Prim.Native.Char.{code}
use Rattle.std.specs.Prelude.{ℕ, suc, ◌+◌, Bool, false, List, [], ◌∷◌, eqb, length, get_or, None, Option, Some}
use Rattle.laws.specs.Pick.{pick}
use Rattle.json_values.specs.declared.Found.{Found}
use Rattle.json_values.specs.declared.Found.TheVariants.{At, Nothing, Twice}
use Rattle.json_tokens.specs.Scan.{then, past_blanks, past_colon}
use Rattle.json_tokens.specs.Walk.{starts}
use Rattle.json_strings.specs.Text.{string_at, content_at, same_list}
use Rattle.json_values.specs.Value.{value_at, member_step}

-- the places of the members of the object at a place, where its values are nested at most d deep
unfoldable pub members_of : List ℕ → ℕ → ℕ → List ℕ
members_of s d at =
    pick (eqb (get_or s (past_blanks s (at + 1)) 0) (code "}")) []
    (starts (suc (length s)) (member_step s (value_at s d)) (past_blanks s (at + 1)))

-- the member at a place has the name w
unfoldable pub named : List ℕ → List ℕ → ℕ → Bool
named s w k = pick (eqb (get_or s k 0) (code "\"")) (same_list (content_at s (k + 1)) w) false

-- the place of its value
unfoldable pub place_of : Option ℕ → ℕ
place_of (Some v) = v
place_of None = 0

unfoldable pub value_place : List ℕ → ℕ → ℕ
value_place s k = place_of (then (string_at s k) (past_colon s))

-- none, one or more of the members so far have the name, the last of them with its value at v
unfoldable pub answer_of : ℕ → ℕ → Found
answer_of n v = pick (eqb n 0) Nothing (pick (eqb n 1) (At v) Twice)

unfoldable pub count_of : Bool → ℕ → ℕ
count_of b n = pick b (pick (eqb n 0) 1 2) n

unfoldable pub tally : List ℕ → List ℕ → ℕ → ℕ → List ℕ → Found
tally s w n v [] = answer_of n v
tally s w n v (k ∷ ks) = tally s w (count_of (named s w k) n) (pick (named s w k) (value_place s k) v) ks

-- the one member of that name
unfoldable pub found_of : List ℕ → List ℕ → ℕ → ℕ → Found
found_of s w d at = tally s w 0 0 (members_of s d at)
