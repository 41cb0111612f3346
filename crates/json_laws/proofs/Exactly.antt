-- The readers accept just what RFC 8259's grammar derives: what `is_text` says is believed from the RFC's page.
use mathlib.Core.Path.{◌≡◌, refl}
use mathlib.Core.Bool.{Bool, true, false, not}
use mathlib.Core.List.{List, [], ◌∷◌}
use mathlib.Core.Logic.{◌↔◌}
use Prim.Native.Nat.{ℕ}
use native.Mathlib.Omega.{arith}
use borrow.Author.Tests.{not-true}
use Rattle.laws.specs.Pick.{pick, either, both}
use Rattle.json_tokens.specs.Scan.{then, then_step, past_while, after, past_colon}
use Rattle.json_tokens.specs.Walk.{onward, walk}
use Rattle.json_tokens.specs.Number.{some_digits, past_minus, past_sign, whole_at, fraction_at, signed_at, exponent_at, integer_at}
use Rattle.json_tokens.specs.Number.{number_at}
use Rattle.json_strings.specs.Text.{escape_of, nibble_of, nibble_at, hex_at, escape_at, least_second, most_second, second_at, tail_at}
use Rattle.json_strings.specs.Text.{long_at, wide_at, unit_at, unit_step, string_at}
use Rattle.json_values.specs.Value.{literal_at, plain_at, item_step, member_step, array_of, object_of, value_by, value_at, ends_at}
use Rattle.json_values.specs.Value.{is_text}
use Rattle.json_laws.specs.Rules.{these, join, left, right, none as nothing, absent}
use Rattle.json_laws.specs.Abnf
use Rattle.json_laws.proofs.Spans.{both-parts}
use Rattle.json_laws.proofs.Sound.{text-sound}
use Rattle.json_laws.proofs.Complete.{text-complete}

pub is-json : (s : List ℕ) → (is_text s ≡ true) ↔ Abnf.JSON-text 16 s
is-json s = (text-sound s, text-complete s)

no-json : (s : List ℕ) → is_text s ≡ false → Abnf.JSON-text 16 s → ⊥
no-json s e h = let z : ◌≡◌ {A = ℕ} 0 1 = cc (text-complete s h) in omega arith

-- what is not accepted is what does not derive: it is not JSON, or nested too deep
pub not-json : (s : List ℕ) → (is_text s ≡ false) ↔ (Abnf.JSON-text 16 s → ⊥)
not-json s = (no-json s, λ n. by n (is_text s) refl)
  where
    by : (Abnf.JSON-text 16 s → ⊥) → (b : Bool) → is_text s ≡ b → is_text s ≡ false
    by n true e = absurd (n (text-sound s e))
    by n false e = e

-- ---- Examples.
-- `{}` derives from the grammar itself
empty-object : Abnf.JSON-text 1 (123 ∷ 125 ∷ [])
unfolding Abnf.JSON-text Abnf.ws Abnf.value Abnf.object Abnf.begin-object Abnf.end-object
empty-object = join nothing (join (right (right (right (left (join opens (join absent closes)))))) nothing)
  where
    opens : Abnf.begin-object (123 ∷ [])
    opens = join nothing (join these nothing)

    closes : Abnf.end-object (125 ∷ [])
    closes = join nothing (join these nothing)

-- 16 brackets, the outermost counted, derive
sixteen : Abnf.JSON-text 16 (
    91 ∷ 91 ∷ 91 ∷ 91 ∷ 91 ∷ 91 ∷ 91 ∷ 91 ∷ 91 ∷ 91 ∷ 91 ∷ 91 ∷ 91 ∷ 91 ∷ 91 ∷ 91 ∷
    93 ∷ 93 ∷ 93 ∷ 93 ∷ 93 ∷ 93 ∷ 93 ∷ 93 ∷ 93 ∷ 93 ∷ 93 ∷ 93 ∷ 93 ∷ 93 ∷ 93 ∷ 93 ∷ [])
unfolding pick either then then_step past_while after onward walk item_step array_of value_by value_at ends_at is_text
sixteen = text-sound _ refl

-- these do not
abbrev table : List (List ℕ)
table =
    -- 01
    (48 ∷ 49 ∷ []) ∷
    -- [1,]
    (91 ∷ 49 ∷ 44 ∷ 93 ∷ []) ∷
    -- a string that holds a line feed
    (34 ∷ 10 ∷ 34 ∷ []) ∷
    -- a string that holds an encoded surrogate, and one that holds C0 AF
    (34 ∷ 237 ∷ 160 ∷ 128 ∷ 34 ∷ []) ∷
    (34 ∷ 192 ∷ 175 ∷ 34 ∷ []) ∷
    -- EF BB BF, the byte order mark, before []
    (239 ∷ 187 ∷ 191 ∷ 91 ∷ 93 ∷ []) ∷
    -- 17 brackets
    (91 ∷ 91 ∷ 91 ∷ 91 ∷ 91 ∷ 91 ∷ 91 ∷ 91 ∷ 91 ∷ 91 ∷ 91 ∷ 91 ∷ 91 ∷ 91 ∷ 91 ∷ 91 ∷ 91 ∷
    93 ∷ 93 ∷ 93 ∷ 93 ∷ 93 ∷ 93 ∷ 93 ∷ 93 ∷ 93 ∷ 93 ∷ 93 ∷ 93 ∷ 93 ∷ 93 ∷ 93 ∷ 93 ∷ 93 ∷ []) ∷
    []

data None : List (List ℕ) → Type 0 where
  none : None []
  more : {x : List ℕ} {xs : List (List ℕ)} → (Abnf.JSON-text 16 x → ⊥) → None xs → None (x ∷ xs)

abbrev refused : List (List ℕ) → Bool
refused [] = true
refused (x ∷ xs) = both (not (is_text x)) (refused xs)

none-derives : (xs : List (List ℕ)) → refused xs ≡ true → None xs
none-derives [] h = none
none-derives (x ∷ xs) h =
    let p = both-parts (not (is_text x)) (refused xs) h in more (no-json x (not-true _ p.0)) (none-derives xs p.1)

examples : None table
unfolding pick either both then then_step past_while after past_colon onward walk some_digits past_minus past_sign whole_at
    fraction_at signed_at exponent_at integer_at number_at escape_of nibble_of nibble_at hex_at escape_at least_second most_second
    second_at tail_at long_at wide_at unit_at unit_step string_at literal_at plain_at item_step member_step array_of object_of
    value_by value_at ends_at is_text
examples = none-derives table refl
