-- ABNF (RFC 5234). A rule is a relation on lists of octets: `r x` says that r derives x, and its proof is a derivation.
use Rattle.std.specs.Prelude.{ℕ, ◌≤◌, List, [], ◌∷◌, ◌++◌}

infixr 70 ◌·◌
infixr 60 ◌∣◌
infix 80 *◌
infix 80 1*◌
abbrev pub Rule : Type 1
Rule = List ℕ → Type 0

-- 2.3, terminal values: %x66.61.6c.73.65 is these octets and no others
pub data octets (w : List ℕ) : List ℕ → Type 0 where
  these : octets w w

-- %x5B is one octet
abbrev pub octet : ℕ → Rule
octet b = octets (b ∷ [])

-- 3.1, concatenation: Rule1 Rule2
pub data ◌·◌ (P Q : Rule) : List ℕ → Type 0 where
  join : {x y : List ℕ} → P x → Q y → (P · Q) (x ++ y)

-- 3.2, alternatives: Rule1 / Rule2
pub data ◌∣◌ (P Q : Rule) : List ℕ → Type 0 where
  left : {x : List ℕ} → P x → (P ∣ Q) x
  right : {x : List ℕ} → Q x → (P ∣ Q) x

-- 3.4, value range alternatives: %x30-39
pub data range (low high : ℕ) : List ℕ → Type 0 where
  within : {b : ℕ} → low ≤ b → b ≤ high → range low high (b ∷ [])

-- 3.6, variable repetition: *Rule, and 1*Rule
pub data *◌ (P : Rule) : List ℕ → Type 0 where
  none : (* P) []
  more : {x y : List ℕ} → P x → (* P) y → (* P) (x ++ y)

abbrev pub 1*◌ : Rule → Rule
1*◌ P = P · * P

-- 3.8, optional sequence: [ Rule ]
pub data optional (P : Rule) : List ℕ → Type 0 where
  absent : optional P []
  present : {x : List ℕ} → P x → optional P x
