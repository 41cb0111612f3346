-- What a string of base64 stands for, and how many bytes that is. A reader must believe `size_of`, `good` and `plain`.
use Rattle.std.specs.Prelude.{ℕ, ◌+◌, ◌*◌, ◌-◌, ◌≤◌, ◌<◌, ◌≡◌, Bool, true, false, List, [], ◌∷◌, ◌++◌, length, None, Option, Some}
use Rattle.json_tokens.specs.Scan.{Passes}
use Rattle.json_strings.specs.Text.{content_at}
use Rattle.base64_strict.specs.Alphabet.{is_letter}
use Rattle.laws.specs.Pasted.{pasted}
use Rattle.base64_strict.specs.declared.Group.{Group}
use Rattle.base64_strict.specs.declared.Group.TheVariants.{Three}
use Rattle.base64_strict.specs.Decode.{Decoded, bytes, none, group_of, decode64}
use Rattle.json_base64.specs.declared.Quad.{Quad}
use Rattle.json_base64.specs.declared.Quad.TheVariants.{Four, End}

-- n bytes and what a text stands for
abbrev pub size_of : ℕ → Decoded → Option ℕ
size_of n (bytes x) = Some (n + length x)
size_of n none = None

abbrev pub empty : List ℕ → Bool
empty [] = true
empty (x ∷ l) = false

-- the text is base64, and the bytes that it stands for
abbrev pub good : Decoded → Bool
good (bytes x) = true
good none = false

abbrev pub plain : Decoded → List ℕ
plain (bytes x) = x
plain none = []

-- ---- For the private functions: letters that are not escaped; a character, and a group of four, with what follows.

-- so many groups of four letters
pub record Lettered (s : List ℕ) (at groups : ℕ) : Type 0 where
  pub inside : 4 * groups ≤ length s - at
  pub letters : Passes is_letter s at (4 * groups)

pub record Reads (s : List ℕ) (k c j : ℕ) : Type 0 where
  pub text : content_at s k ≡ c ∷ content_at s j
  pub on : length s - j < length s - k

abbrev pub CharOf : List ℕ → ℕ → Option (ℕ × ℕ) → Type 0
CharOf s k (Some (c, j)) = Reads s k c j
CharOf s k None = content_at s k ≡ []

pub record Grouped (s : List ℕ) (k : ℕ) (g : Option Group) (j : ℕ) : Type 0 where
  pub a : ℕ
  pub b : ℕ
  pub c : ℕ
  pub d : ℕ
  pub text : content_at s k ≡ a ∷ b ∷ c ∷ d ∷ content_at s j
  pub group : g ≡ group_of a b c d
  pub on : length s - j + 4 ≤ length s - k

abbrev pub QuadOf : List ℕ → ℕ → Option Quad → Type 0
QuadOf s k (Some (Four g j)) = Grouped s k (Some g) j
QuadOf s k (Some End) = content_at s k ≡ []
QuadOf s k None = decode64 (content_at s k) ≡ none

-- the bytes of the four letters at k stand from index n on
pub record Tripled (s : List ℕ) (k : ℕ) (was : List ℕ) (n : ℕ) (out : List ℕ) : Type 0 where
  pub x : ℕ
  pub y : ℕ
  pub z : ℕ
  pub group : Grouped s k (Some (Three x y z)) (k + 4)
  pub put : out ≡ pasted was n (x ∷ y ∷ z ∷ [])

-- of the bytes E, which the string's characters from some place on stand for, the first n stand at the front of a
-- buffer, and its characters from k on stand for the rest
pub record Begun (E s : List ℕ) (k : ℕ) (was : List ℕ) (n : ℕ) (out : List ℕ) : Type 0 where
  pub done : List ℕ
  pub rest : List ℕ
  pub reads : decode64 (content_at s k) ≡ bytes rest
  pub whole : done ++ rest ≡ E
  pub count : length done ≡ n
  pub over : out ≡ pasted was 0 done
