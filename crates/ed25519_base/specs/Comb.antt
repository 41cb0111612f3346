-- The comb of four teeth: columns of four words, and the table of the multiples that they stand for.
use Rattle.std.specs.Prelude.{ℕ, ◌+◌, ◌*◌, ◌/◌, ◌%◌, ◌^◌, [], ◌∷◌}
use Rattle.digits.specs.Digits.{value}
use Rattle.ed25519_curve.specs.declared.Flat.{Flat}
use Rattle.ed25519_curve.specs.declared.Addend.{Addend}
use Rattle.ed25519_curve.specs.Coords.{GoodFlat}
use Rattle.ed25519_group_laws.specs.Affine.{Affine, sum_of}
use Rattle.ed25519_windows.specs.Windows.{FlatFor, RowFor}

-- 2^64
abbrev pub word_radix : ℕ
word_radix = 18446744073709551616

-- four words as one number
abbrev pub words_of : ℕ → ℕ → ℕ → ℕ → ℕ
words_of a b c d = value word_radix (a ∷ b ∷ c ∷ d ∷ [])

-- what is left of four words above the lowest i bits of each
unfoldable pub comb_of : ℕ → ℕ → ℕ → ℕ → ℕ → ℕ
comb_of a b c d i = words_of (a / 2 ^ i) (b / 2 ^ i) (c / 2 ^ i) (d / 2 ^ i)

-- bit i of each of four words
unfoldable pub column_of : ℕ → ℕ → ℕ → ℕ → ℕ → ℕ
column_of a b c d i = a / 2 ^ i % 2 + 2 * (b / 2 ^ i % 2) + 4 * (c / 2 ^ i % 2) + 8 * (d / 2 ^ i % 2)

-- what a column counts: each of its bits is the lowest of a word
unfoldable pub teeth_of : ℕ → ℕ
teeth_of k = words_of (k % 2) (k / 2 % 2) (k / 4 % 2) (k / 8 % 2)

-- n is 2 q, and the point of a row
pub record Turn (q : Flat) (r : Addend) (n : Flat) : Type 0 where
  pub good : GoodFlat n
  pub stands : (a b : Affine) → FlatFor q a → RowFor r b → FlatFor n (sum_of (sum_of a a) b)
