-- number = [ minus ] int [ frac ] [ exp ] (RFC 8259, section 6). A reader takes as many digits as there are.
use Prim.Native.Char.{code}
use Rattle.std.specs.Prelude.{ℕ, ◌+◌, Bool, false, ◌||◌, List, eqb, get_or, None, Option, Some}
use Rattle.laws.specs.Pick.{pick, either}
use Rattle.json_tokens.specs.Scan.{then, digit, past_while}

-- 1*DIGIT
unfoldable pub some_digits : List ℕ → ℕ → Option ℕ
some_digits s at = pick (eqb (past_while digit s at) at) None (Some (past_while digit s at))

-- [ minus ]
unfoldable pub past_minus : List ℕ → ℕ → ℕ
past_minus s at = pick (eqb (get_or s at 0) (code "-")) (at + 1) at

-- [ minus / plus ]
unfoldable pub past_sign : List ℕ → ℕ → ℕ
past_sign s at = pick (either (eqb (get_or s at 0) (code "+")) (eqb (get_or s at 0) (code "-"))) (at + 1) at

-- int = zero / ( digit1-9 *DIGIT )
unfoldable pub whole_at : List ℕ → ℕ → Option ℕ
whole_at s at = pick (eqb (get_or s at 0) (code "0")) (Some (at + 1)) (some_digits s at)

-- [ frac ], frac = decimal-point 1*DIGIT
unfoldable pub fraction_at : List ℕ → ℕ → Option ℕ
fraction_at s at = pick (eqb (get_or s at 0) (code ".")) (some_digits s (at + 1)) (Some at)

-- [ minus / plus ] 1*DIGIT
unfoldable pub signed_at : List ℕ → ℕ → Option ℕ
signed_at s at = some_digits s (past_sign s at)

-- [ exp ], exp = e [ minus / plus ] 1*DIGIT
unfoldable pub exponent_at : List ℕ → ℕ → Option ℕ
exponent_at s at = pick (either (eqb (get_or s at 0) (code "e")) (eqb (get_or s at 0) (code "E"))) (signed_at s (at + 1)) (Some at)

-- [ minus ] int
unfoldable pub integer_at : List ℕ → ℕ → Option ℕ
integer_at s at = whole_at s (past_minus s at)

unfoldable pub number_at : List ℕ → ℕ → Option ℕ
number_at s at = then (integer_at s at) (λ e. then (fraction_at s e) (exponent_at s))

-- one digit, and then what may follow a value in a list: a comma or a closing bracket
unfoldable pub lone_digit : List ℕ → ℕ → Bool
lone_digit s at =
    pick (digit (get_or s at 0))
    ((eqb (get_or s (at + 1) 0) (code ",") || eqb (get_or s (at + 1) 0) (code "]")) || eqb (get_or s (at + 1) 0) (code "}"))
    false
