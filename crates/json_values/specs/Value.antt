-- value = false / null / true / object / array / number / string (RFC 8259, sections 2 to 5), nested at most so deep.
use Prim.Native.Char.{code}
use Rattle.std.specs.Prelude.{ℕ, zero, suc, ◌+◌, Bool, false, List, eqb, length, get_or, drop, None, Option, Some}
use Rattle.json_tokens.specs.declared.Step.{Step}
use Rattle.laws.specs.Ascii.{ascii}
use Rattle.laws.specs.Pick.{pick}
use Rattle.json_tokens.specs.Scan.{then_step, starts_with, past_blanks, after, past_colon}
use Rattle.json_tokens.specs.Walk.{walked}
use Rattle.json_tokens.specs.Number.{number_at}
use Rattle.json_strings.specs.Text.{string_at}

unfoldable pub literal_at : List ℕ → List ℕ → ℕ → Option ℕ
literal_at w s at = pick (starts_with w (drop at s)) (Some (at + length w)) None

-- a value that holds no other: string, true, false, null, number
unfoldable pub plain_at : List ℕ → ℕ → Option ℕ
plain_at s at =
    pick (eqb (get_or s at 0) (code "\"")) (string_at s at)
    (pick (eqb (get_or s at 0) (code "t")) (literal_at (ascii "true") s at)
    (pick (eqb (get_or s at 0) (code "f")) (literal_at (ascii "false") s at)
    (pick (eqb (get_or s at 0) (code "n")) (literal_at (ascii "null") s at)
    (number_at s at))))

-- A turn of an array, a value with what follows it; p reads a value.
unfoldable pub item_step : List ℕ → (ℕ → Option ℕ) → ℕ → Step
item_step s p k = then_step (p k) (after s (code "]"))

-- A turn of an object: member = string name-separator value, with what follows it.
unfoldable pub member_step : List ℕ → (ℕ → Option ℕ) → ℕ → Step
member_step s p k = then_step (string_at s k) (λ e. then_step (past_colon s e) (λ v. then_step (p v) (after s (code "}"))))

-- array = begin-array [ value *( value-separator value ) ] end-array, at its bracket
unfoldable pub array_of : List ℕ → (ℕ → Option ℕ) → ℕ → Option ℕ
array_of s p at =
    pick (eqb (get_or s (past_blanks s (at + 1)) 0) (code "]")) (Some (past_blanks s (at + 1) + 1))
    (walked (length s) (item_step s p) (past_blanks s (at + 1)))

-- object = begin-object [ member *( value-separator member ) ] end-object, at its brace
unfoldable pub object_of : List ℕ → (ℕ → Option ℕ) → ℕ → Option ℕ
object_of s p at =
    pick (eqb (get_or s (past_blanks s (at + 1)) 0) (code "}")) (Some (past_blanks s (at + 1) + 1))
    (walked (length s) (member_step s p) (past_blanks s (at + 1)))

-- a value, where o reads an object and a an array
unfoldable pub value_by : (ℕ → Option ℕ) → (ℕ → Option ℕ) → List ℕ → ℕ → Option ℕ
value_by o a s at = pick (eqb (get_or s at 0) (code "{")) (o at) (pick (eqb (get_or s at 0) (code "[")) (a at) (plain_at s at))

-- a value with at most d brackets around anything in it
unfoldable pub value_at : List ℕ → ℕ → ℕ → Option ℕ
value_at s zero at = value_by (λ k. None) (λ k. None) s at
value_at s (suc d) at = value_by (object_of s (value_at s d)) (array_of s (value_at s d)) s at

unfoldable pub array_at : List ℕ → ℕ → ℕ → Option ℕ
array_at s zero at = None
array_at s (suc d) at = array_of s (value_at s d) at

unfoldable pub object_at : List ℕ → ℕ → ℕ → Option ℕ
object_at s zero at = None
object_at s (suc d) at = object_of s (value_at s d) at

-- nothing but blanks follows
unfoldable pub ends_at : List ℕ → Option ℕ → Bool
ends_at s (Some e) = eqb (past_blanks s e) (length s)
ends_at s None = false

-- values may nest in objects and in arrays so deep, the outermost counted (request P7)
abbrev pub deepest : ℕ
deepest = 16

-- JSON-text = ws value ws
unfoldable pub is_text : List ℕ → Bool
is_text s = ends_at s (value_at s deepest (past_blanks s 0))
