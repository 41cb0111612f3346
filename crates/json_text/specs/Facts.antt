-- For the private functions: a character of a string, with what follows.
use Prim.Native.Char.{code}
use Rattle.std.specs.Prelude.{ℕ, ◌+◌, ◌-◌, ◌≤◌, ◌<◌, ◌≡◌, Bool, true, false, not, ◌&&◌, List, [], ◌∷◌, eqb, length}
use Rattle.json_strings.specs.Text.{content_at}
use Rattle.json_text.specs.declared.Letter.{Letter}
use Rattle.json_text.specs.declared.Letter.TheVariants.{Is, Stop, Lone}
use Rattle.json_text.specs.Octets.{utf8, Text, octets, none, onto, text_of}

abbrev pub good : Text → Bool
good (octets x) = true
good none = false

-- the number c with what stands at j begins the character d, which ends at m. Its octets are no more than the bytes
-- that it takes.
pub record Begins (s : List ℕ) (c j d m : ℕ) : Type 0 where
  pub text : text_of (c ∷ content_at s j) ≡ onto (utf8 d) (text_of (content_at s m))
  pub size : length (utf8 d) + j ≤ length (utf8 c) + m
  pub on : length s - m ≤ length s - j

abbrev pub BegunBy : List ℕ → ℕ → ℕ → Letter → Type 0
BegunBy s c j (Is d m) = Begins s c j d m
BegunBy s c j Stop = ⊥
BegunBy s c j Lone = text_of (c ∷ content_at s j) ≡ none

pub record Reads (s : List ℕ) (k c j : ℕ) : Type 0 where
  pub text : text_of (content_at s k) ≡ onto (utf8 c) (text_of (content_at s j))
  pub size : length (utf8 c) + k ≤ j
  pub on : length s - j < length s - k

abbrev pub LetterOf : List ℕ → ℕ → Letter → Type 0
LetterOf s k (Is c j) = Reads s k c j
LetterOf s k Stop = text_of (content_at s k) ≡ octets []
LetterOf s k Lone = text_of (content_at s k) ≡ none

-- neither a quote nor a backslash
unfoldable pub bare : ℕ → Bool
bare b = not (eqb b (code "\"")) && not (eqb b (code "\\"))
