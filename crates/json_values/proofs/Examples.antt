-- Worked examples of the grammar, computed: what is a JSON text, and what not; and what a member's name is.
use Prim.Native.Nat.{ℕ}
use mathlib.Core.Path.{◌≡◌, refl}
use mathlib.Core.Bool.{Bool, true, false, not}
use mathlib.Core.List.{List, [], ◌∷◌}
use lib.Dec.{T}
use Rattle.laws.specs.Ascii.{ascii}
use Rattle.laws.specs.Pick.{pick, either, both}
use Rattle.json_values.specs.declared.Found.TheVariants.{At, Twice}
use Rattle.json_tokens.specs.Scan.{then, then_step, past_while, after, past_colon}
use Rattle.json_tokens.specs.Walk.{onward, walk, more_of, starts}
use Rattle.json_tokens.specs.Number.{some_digits, past_minus, past_sign, whole_at, fraction_at, signed_at, exponent_at}
use Rattle.json_tokens.specs.Number.{integer_at, number_at}
use Rattle.json_strings.specs.Text.{escape_of, nibble_of, nibble_at, hex_at, escape_at, least_second, most_second, second_at}
use Rattle.json_strings.specs.Text.{tail_at, long_at, wide_at, unit_at, unit_step, string_at, codes_at, content_at, same_list}
use Rattle.json_values.specs.Value.{literal_at, plain_at, item_step, member_step, array_of, object_of, value_by, value_at}
use Rattle.json_values.specs.Value.{ends_at, is_text}
use Rattle.json_values.specs.Members.{members_of, named, place_of, value_place, answer_of, count_of, tally, found_of}

record Row : Type 0 where
  text : List ℕ
  is : Bool

abbrev same : Bool → Bool → Bool
same true b = b
same false b = not b

abbrev andb : Bool → Bool → Bool
andb true b = b
andb false b = false

abbrev all : List Row → Bool
all [] = true
all (r ∷ rs) = andb (same (is_text r.text) r.is) (all rs)

abbrev table : List Row
table =
    record { text = ascii "{\"responses\":[]}"; is = true } ∷
    record { text = ascii " [1,-0.5e+3,true,false,null,\"a\\u00e9\\n\\/\"] "; is = true } ∷
    record { text = ascii "[[[[[[[[[[[[[[[[]]]]]]]]]]]]]]]]"; is = true } ∷
    record { text = ascii "[[[[[[[[[[[[[[[[[]]]]]]]]]]]]]]]]]"; is = false } ∷
    record { text = ascii "[1,]"; is = false } ∷
    record { text = ascii "01"; is = false } ∷
    record { text = ascii "-"; is = false } ∷
    record { text = ascii "1."; is = false } ∷
    record { text = ascii "\"\\ud800\""; is = true } ∷
    -- '"\xc3\xa9\xe2\x82\xac\xf0\x9f\x98\x80"'
    record { text = 34 ∷ 195 ∷ 169 ∷ 226 ∷ 130 ∷ 172 ∷ 240 ∷ 159 ∷ 152 ∷ 128 ∷ 34 ∷ []; is = true } ∷
    -- '"\xc3("'
    record { text = 34 ∷ 195 ∷ 40 ∷ 34 ∷ []; is = false } ∷
    -- '"\xc0\xaf"'
    record { text = 34 ∷ 192 ∷ 175 ∷ 34 ∷ []; is = false } ∷
    -- '"\xed\xa0\x80"'
    record { text = 34 ∷ 237 ∷ 160 ∷ 128 ∷ 34 ∷ []; is = false } ∷
    -- '"\xf4\x90\x80\x80"'
    record { text = 34 ∷ 244 ∷ 144 ∷ 128 ∷ 128 ∷ 34 ∷ []; is = false } ∷
    record { text = ascii "{\"a\":1,\"a\":{\"b\":[]}}"; is = true } ∷
    -- '"\n"'
    record { text = 34 ∷ 10 ∷ 34 ∷ []; is = false } ∷
    -- ''
    record { text = []; is = false } ∷
    record { text = ascii "[1] x"; is = false } ∷
    record { text = ascii "\"\\x\""; is = false } ∷
    record { text = ascii "{\"a\" 1}"; is = false } ∷
    -- '\xef\xbb\xbf[]'
    record { text = 239 ∷ 187 ∷ 191 ∷ 91 ∷ 93 ∷ []; is = false } ∷
    record { text = ascii "nul"; is = false } ∷
    record { text = ascii "\"a"; is = false } ∷
    []

examples : T (all table)
unfolding pick either both then then_step past_while after past_colon onward walk more_of starts some_digits past_minus
    past_sign whole_at fraction_at signed_at exponent_at integer_at number_at escape_of nibble_of nibble_at hex_at escape_at
    least_second most_second second_at tail_at long_at wide_at unit_at unit_step string_at codes_at content_at same_list literal_at
    plain_at item_step member_step array_of object_of value_by value_at ends_at is_text
examples = tt

-- "rand" written with an escape is found; a name that stands twice is Twice
found-escaped : found_of (ascii "{\"\\u0072and\":\"x\",\"b\":[1]}") (ascii "rand") 15 0 ≡ At 13
unfolding pick either both then then_step past_while after past_colon onward walk more_of starts some_digits past_minus
    past_sign whole_at fraction_at signed_at exponent_at integer_at number_at escape_of nibble_of nibble_at hex_at escape_at
    least_second most_second second_at tail_at long_at wide_at unit_at unit_step string_at codes_at content_at same_list literal_at
    plain_at item_step member_step array_of object_of value_by value_at ends_at is_text members_of named place_of value_place
    answer_of count_of tally found_of
found-escaped = refl

found-twice : found_of (ascii "{\"a\":1,\"b\":{\"a\":2},\"a\":[]}") (ascii "a") 15 0 ≡ Twice
unfolding pick either both then then_step past_while after past_colon onward walk more_of starts some_digits past_minus
    past_sign whole_at fraction_at signed_at exponent_at integer_at number_at escape_of nibble_of nibble_at hex_at escape_at
    least_second most_second second_at tail_at long_at wide_at unit_at unit_step string_at codes_at content_at same_list literal_at
    plain_at item_step member_step array_of object_of value_by value_at ends_at is_text members_of named place_of value_place
    answer_of count_of tally found_of
found-twice = refl
