-- What a text means by RFC 8259: the tree of values that a derivation from its grammar (Abnf) stands for. A function
-- takes the alternatives of a rule in the order in which the rule has them: `left` is the first, `right (left ..)` the
-- second, and so on. For theorems alone: no reader builds a tree, and nothing here is told by one.
use Rattle.std.specs.Prelude.{ℕ, suc, ◌+◌, ◌*◌, ◌-◌, ◌≡◌, Bool, List, [], ◌∷◌, leb}
use Rattle.laws.specs.Pick.{pick, both}
use Rattle.json_laws.specs.Rules.{Rule, these, within, ◌·◌, join, left, right, *◌, none, more, optional, absent}
use Rattle.json_laws.specs.Rules.{present}
use Rattle.json_laws.specs.Abnf

-- ---- Section 3: "A JSON value MUST be an object, array, number, or string, or one of .. false, null, true". A number
-- is its text as it stands; a string is its characters, each by its number in Unicode; a member is its name, which is
-- a string's characters, with its value. Elements and members stand in the order of the text.
mutual
  pub data Json : Type 0 where
    false : Json
    null : Json
    true : Json
    object : Members → Json
    array : Elements → Json
    number : List ℕ → Json
    string : List ℕ → Json

  pub data Elements : Type 0 where
    no_more : Elements
    element : Json → Elements → Elements

  pub data Members : Type 0 where
    no-others : Members
    member : List ℕ → Json → Members → Members

-- the same from lists
pub record Member : Type 0 where
  pub name : List ℕ
  pub value : Json

unfoldable pub elements : List Json → Elements
elements [] = no_more
elements (t ∷ ts) = element t (elements ts)

unfoldable pub members : List Member → Members
members [] = no-others
members (m ∷ ms) = member m.name m.value (members ms)

-- ---- Section 7, strings.
-- RFC 3629, section 3: the number of a character has the bits x of its octets
-- 0xxxxxxx, 110xxxxx 10xxxxxx, 1110xxxx 10xxxxxx 10xxxxxx, 11110xxx 10xxxxxx 10xxxxxx 10xxxxxx
unfoldable pub utf8 : List ℕ → ℕ
utf8 [] = 0
utf8 (a ∷ []) = a
utf8 (a ∷ b ∷ []) = (a - 0xC0) * 0x40 + (b - 0x80)
utf8 (a ∷ b ∷ c ∷ []) = (a - 0xE0) * 0x1000 + (b - 0x80) * 0x40 + (c - 0x80)
utf8 (a ∷ b ∷ c ∷ d ∷ x) = (a - 0xF0) * 0x40000 + (b - 0x80) * 0x1000 + (c - 0x80) * 0x40 + (d - 0x80)

-- a digit's number: 0 to 9, A to F, a to f
unfoldable pub hex_of : (x : List ℕ) → Abnf.HEXDIG x → ℕ
unfolding Abnf.HEXDIG Abnf.DIGIT
hex_of x (left (within {b = b} l h)) = b - 0x30
hex_of x (right (left (within {b = b} l h))) = b - 0x41 + 10
hex_of x (right (right (within {b = b} l h))) = b - 0x61 + 10

-- "Any character may be escaped": the number of a character, or of half a surrogate pair where \u tells such
unfoldable pub unit_of : (x : List ℕ) → Abnf.char x → ℕ
unfolding Abnf.char Abnf.escape
-- unescaped
unit_of x (left u) = utf8 x
-- %x22 /          ; "    quotation mark  U+0022
unit_of x (right (join these (left these))) = 0x0022
-- %x5C /          ; \    reverse solidus U+005C
unit_of x (right (join these (right (left these)))) = 0x005C
-- %x2F /          ; /    solidus         U+002F
unit_of x (right (join these (right (right (left these))))) = 0x002F
-- %x62 /          ; b    backspace       U+0008
unit_of x (right (join these (right (right (right (left these)))))) = 0x0008
-- %x66 /          ; f    form feed       U+000C
unit_of x (right (join these (right (right (right (right (left these))))))) = 0x000C
-- %x6E /          ; n    line feed       U+000A
unit_of x (right (join these (right (right (right (right (right (left these)))))))) = 0x000A
-- %x72 /          ; r    carriage return U+000D
unit_of x (right (join these (right (right (right (right (right (right (left these))))))))) = 0x000D
-- %x74 /          ; t    tab             U+0009
unit_of x (right (join these (right (right (right (right (right (right (right (left these)))))))))) = 0x0009
-- %x75 4HEXDIG )  ; uXXXX                U+XXXX
unit_of x (right (join these (right (right (right (right (right (right (right (right
    (join these (join {x = a} p (join {x = b} q (join {x = c} {y = d} r t)))))))))))))) =
    hex_of a p * 0x1000 + hex_of b q * 0x100 + hex_of c r * 0x10 + hex_of d t

abbrev pub units_of : {x : List ℕ} → (* Abnf.char) x → List ℕ
units_of none = []
units_of (more {x = x} c m) = unit_of x c ∷ units_of m

-- "To escape an extended character that is not in the Basic Multilingual Plane, the character is represented as a
-- 12-character sequence, encoding the UTF-16 surrogate pair": a half of D800 to DBFF with one of DC00 to DFFF behind it
-- is one character (RFC 2781, section 2.2). A half alone stays the number that it is (section 8.2). Octets stand for no
-- half (RFC 3629, section 3), so that only escapes pair.
unfoldable pub is_high : ℕ → Bool
is_high a = both (leb 0xD800 a) (leb a 0xDBFF)

unfoldable pub is_low : ℕ → Bool
is_low a = both (leb 0xDC00 a) (leb a 0xDFFF)

unfoldable pub pair_of : ℕ → ℕ → ℕ
pair_of a b = 0x10000 + (a - 0xD800) * 0x400 + (b - 0xDC00)

unfoldable pub paired : List ℕ → List ℕ
paired [] = []
paired (a ∷ []) = a ∷ []
paired (a ∷ b ∷ x) = pick (both (is_high a) (is_low b)) (pair_of a b ∷ paired x) (a ∷ paired (b ∷ x))

-- string = quotation-mark *char quotation-mark
unfoldable pub string_of : (x : List ℕ) → Abnf.string x → List ℕ
unfolding Abnf.string
string_of x (join p (join m q)) = paired (units_of m)

-- ---- Sections 4 and 5: what stands in [ P *( value-separator P ) ], where f says it of a P.
module _ {P : Rule} {A : Type 0} (f : (x : List ℕ) → P x → A) where
  abbrev pub further_in : {x : List ℕ} → (* (Abnf.value-separator · P)) x → List A
  further_in none = []
  further_in (more (join {y = y} c p) m) = f y p ∷ further_in m

  abbrev pub list_in : {x : List ℕ} → optional (P · * (Abnf.value-separator · P)) x → List A
  list_in absent = []
  list_in (present (join {x = x} p m)) = f x p ∷ further_in m

  -- the same between brackets
  abbrev pub parts_in : {B E : Rule} {x : List ℕ} → (B · optional (P · * (Abnf.value-separator · P)) · E) x → List A
  parts_in (join b (join m e)) = list_in m

module _ {W : Rule} (f : (x : List ℕ) → W x → Json) where
  -- member = string name-separator value
  unfoldable pub member_of : (x : List ℕ) → Abnf.member W x → Member
  unfolding Abnf.member
  member_of x (join {x = q} a (join {y = v} n w)) = record { name = string_of q a; value = f v w }

  unfoldable pub members_in : (x : List ℕ) → Abnf.object W x → List Member
  unfolding Abnf.object
  members_in x o = parts_in member_of o

  unfoldable pub elements_in : (x : List ℕ) → Abnf.array W x → List Json
  unfolding Abnf.array
  elements_in x a = parts_in f a

-- ---- Section 3: value = false / null / true / object / array / number / string
unfoldable pub tree_of : (d : ℕ) (x : List ℕ) → Abnf.value d x → Json
unfolding Abnf.value
tree_of ℕ.zero x (left v) = false
tree_of ℕ.zero x (right (left v)) = null
tree_of ℕ.zero x (right (right (left v))) = true
tree_of ℕ.zero x (right (right (right (left v)))) = number x
tree_of ℕ.zero x (right (right (right (right v)))) = string (string_of x v)
tree_of (suc d) x (left v) = false
tree_of (suc d) x (right (left v)) = null
tree_of (suc d) x (right (right (left v))) = true
tree_of (suc d) x (right (right (right (left v)))) = object (members (members_in (λ y. tree_of d y) x v))
tree_of (suc d) x (right (right (right (right (left v))))) = array (elements (elements_in (λ y. tree_of d y) x v))
tree_of (suc d) x (right (right (right (right (right (left v)))))) = number x
tree_of (suc d) x (right (right (right (right (right (right v)))))) = string (string_of x v)

-- ---- Section 2: JSON-text = ws value ws
unfoldable pub text_tree : (d : ℕ) (x : List ℕ) → Abnf.JSON-text d x → Json
unfolding Abnf.JSON-text
text_tree d x (join w (join {x = v} p u)) = tree_of d v p

-- ---- Section 4: among members, the values of those of a name, in order; names "SHOULD be unique", and need not be.
pub data Named (w : List ℕ) : List Member → List Json → Type 0 where
  no_member : Named w [] []
  this-one : {m : Member} {ms : List Member} {ts : List Json} → m.name ≡ w → Named w ms ts
      → Named w (m ∷ ms) (m.value ∷ ts)
  another : {m : Member} {ms : List Member} {ts : List Json} → (m.name ≡ w → ⊥) → Named w ms ts → Named w (m ∷ ms) ts
