-- Reading base64 strictly: whole groups of four, letters of the alphabet only, pads in the last group only, spare bits
-- zero (RFC 4648, sections 3.2, 3.3, 3.5).
use Rattle.std.specs.Prelude.{ℕ, ◌+◌, ◌*◌, ◌/◌, ◌%◌, List, [], ◌∷◌, ◌++◌, eqb, None, Option, Some}
use Rattle.base64_strict.specs.declared.Group.{Group}
use Rattle.base64_strict.specs.declared.Group.TheVariants.{Three, Two, One}
use Rattle.laws.specs.Pick.{pick}
use Rattle.base64_strict.specs.Alphabet.{sextet_of, pad}

-- the bytes of six bits each p, q, r, t
abbrev pub high : ℕ → ℕ → ℕ
high p q = p * 4 + q / 16

abbrev pub middle : ℕ → ℕ → ℕ
middle q r = q % 16 * 16 + r / 4

abbrev pub low : ℕ → ℕ → ℕ
low r t = r % 4 * 64 + t

-- p q = = : one byte; its four spare bits are zero
unfoldable pub one_of : ℕ → ℕ → Option Group
one_of p q = pick (eqb (q % 16) 0) (Some (One (high p q))) None

-- p q r = : two bytes; their two spare bits are zero
unfoldable pub two_of : ℕ → ℕ → ℕ → Option Group
two_of p q r = pick (eqb r 64) None (pick (eqb (r % 4) 0) (Some (Two (high p q) (middle q r))) None)

unfoldable pub three_of : ℕ → ℕ → ℕ → ℕ → Option Group
three_of p q r t = pick (eqb r 64) None (pick (eqb t 64) None (Some (Three (high p q) (middle q r) (low r t))))

-- what four characters stand for
unfoldable pub group_of : ℕ → ℕ → ℕ → ℕ → Option Group
group_of a b c d =
    pick (eqb (sextet_of a) 64) None (pick (eqb (sextet_of b) 64) None
    (pick (eqb d pad)
    (pick (eqb c pad) (one_of (sextet_of a) (sextet_of b)) (two_of (sextet_of a) (sextet_of b) (sextet_of c)))
    (three_of (sextet_of a) (sextet_of b) (sextet_of c) (sextet_of d))))

-- what a text stands for, if it is base64
pub data Decoded : Type 0 where
  bytes : List ℕ → Decoded
  none : Decoded

abbrev pub onto : List ℕ → Decoded → Decoded
onto xs (bytes ys) = bytes (xs ++ ys)
onto xs none = none

-- a group, and what follows it: after a pad nothing may
abbrev pub with_group : Option Group → List ℕ → Decoded → Decoded
with_group (Some (Three x y z)) after rest = onto (x ∷ y ∷ z ∷ []) rest
with_group (Some (Two x y)) [] rest = bytes (x ∷ y ∷ [])
with_group (Some (Two x y)) (a ∷ after) rest = none
with_group (Some (One x)) [] rest = bytes (x ∷ [])
with_group (Some (One x)) (a ∷ after) rest = none
with_group None after rest = none

unfoldable pub decode64 : List ℕ → Decoded
decode64 [] = bytes []
decode64 (a ∷ []) = none
decode64 (a ∷ b ∷ []) = none
decode64 (a ∷ b ∷ c ∷ []) = none
decode64 (a ∷ b ∷ c ∷ d ∷ xs) = with_group (group_of a b c d) xs (decode64 xs)
