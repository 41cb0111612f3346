-- RFC 4648, section 4: three bytes are four letters of six bits each; one or two bytes at the end are filled with zero
-- bits, and with pads.
use Rattle.std.specs.Prelude.{ℕ, ◌+◌, ◌*◌, ◌/◌, ◌%◌, List, [], ◌∷◌, ◌++◌}
use Rattle.base64_strict.specs.Alphabet.{letter_of, pad}

-- the letters of one, two and three bytes
abbrev pub encode_one : ℕ → List ℕ
encode_one a = letter_of (a / 4) ∷ letter_of (a % 4 * 16) ∷ pad ∷ pad ∷ []

abbrev pub encode_two : ℕ → ℕ → List ℕ
encode_two a b = letter_of (a / 4) ∷ letter_of (a % 4 * 16 + b / 16) ∷ letter_of (b % 16 * 4) ∷ pad ∷ []

abbrev pub encode_three : ℕ → ℕ → ℕ → List ℕ
encode_three a b c =
    letter_of (a / 4) ∷ letter_of (a % 4 * 16 + b / 16) ∷ letter_of (b % 16 * 4 + c / 64) ∷ letter_of (c % 64) ∷ []

unfoldable pub encode64 : List ℕ → List ℕ
encode64 [] = []
encode64 (a ∷ []) = encode_one a
encode64 (a ∷ b ∷ []) = encode_two a b
encode64 (a ∷ b ∷ c ∷ xs) = encode_three a b c ++ encode64 xs
