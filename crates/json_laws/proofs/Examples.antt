-- What some texts mean, by every derivation: all escapes, characters as UTF-8, surrogates, and the order of members.
use Prim.Native.Nat.{ℕ}
use mathlib.Core.Path.{◌≡◌, refl, ◌∙◌, ap}
use mathlib.Core.Bool.{true}
use mathlib.Core.List.{List, [], ◌∷◌}
use native.Mathlib.Omega.{arith}
use lib.ListN.{get_or}
use Rattle.laws.specs.Ascii.{ascii}
use Rattle.laws.specs.Pick.{pick, either, both}
use Rattle.json_tokens.specs.Scan.{then, then_step, blank, past_while, after, past_colon}
use Rattle.json_tokens.specs.Walk.{onward, walk, more_of, starts}
use Rattle.json_tokens.specs.Number.{some_digits, past_minus, past_sign, whole_at, fraction_at, signed_at, exponent_at, integer_at}
use Rattle.json_tokens.specs.Number.{number_at}
use Rattle.json_strings.specs.Text.{escape_of, nibble_of, nibble_at, hex_at, escape_at, least_second, most_second, second_at, tail_at}
use Rattle.json_strings.specs.Text.{more_bits, two_at, three_at, four_at, long_at, wide_at, unit_at, unit_step, string_at, codes_at}
use Rattle.json_strings.specs.Text.{content_at}
use Rattle.json_values.specs.Value.{literal_at, plain_at, item_step, member_step, array_of, object_of, value_by, value_at, ends_at}
use Rattle.json_values.specs.Value.{is_text}
use Rattle.json_values.specs.Members.{members_of, place_of, value_place}
use Rattle.report_read.specs.Entry.{elements_of}
use Rattle.json_laws.specs.Abnf
use Rattle.json_laws.specs.Tree.{Json, Member, members, elements, is_high, is_low, pair_of, paired, text_tree, Named}
use Rattle.json_laws.specs.Tree.{no_member, this-one, another}
use Rattle.json_laws.proofs.Sound.{text-sound}
use Rattle.json_laws.proofs.Tree.{seen, named, text-seen}

-- the text derives, and every derivation of it means t
record Means (s : List ℕ) (t : Json) : Type 0 where
  derives : Abnf.JSON-text 16 s
  means : (j : Abnf.JSON-text 16 s) → text_tree 16 s j ≡ t

means_is : (s : List ℕ) (t : Json) → is_text s ≡ true → seen s 16 (past_while blank s 0) ≡ t → Means s t
means_is s t h e = record { derives = text-sound s h; means = λ j. text-seen 16 s j ∙ e }

-- "\"\\\/\b\f\n\r\t\u00e9"
escapes : Means (ascii "\"\\\"\\\\\\/\\b\\f\\n\\r\\t\\u00e9\"")
    (Json.string (0x22 ∷ 0x5C ∷ 0x2F ∷ 0x08 ∷ 0x0C ∷ 0x0A ∷ 0x0D ∷ 0x09 ∷ 0xE9 ∷ []))
unfolding pick either both then then_step past_while onward walk more_of starts escape_of nibble_of nibble_at hex_at escape_at
    unit_at unit_step string_at codes_at content_at plain_at value_by value_at ends_at is_text is_high is_low pair_of paired seen
escapes = means_is _ _ refl refl

-- the characters U+0041, U+00E9, U+20AC and U+1D11E, which is section 7's G clef, as UTF-8
as-utf8 : Means (34 ∷ 0x41 ∷ 0xC3 ∷ 0xA9 ∷ 0xE2 ∷ 0x82 ∷ 0xAC ∷ 0xF0 ∷ 0x9D ∷ 0x84 ∷ 0x9E ∷ 34 ∷ [])
    (Json.string (0x41 ∷ 0xE9 ∷ 0x20AC ∷ 0x1D11E ∷ []))
unfolding pick either both then then_step past_while onward walk more_of starts least_second most_second second_at tail_at
    more_bits two_at three_at four_at long_at wide_at unit_at unit_step string_at codes_at content_at plain_at value_by value_at
    ends_at is_text is_high is_low pair_of paired seen
as-utf8 = means_is _ _ refl refl

-- section 7: "a string containing only the G clef character (U+1D11E) may be represented as "\uD834\uDD1E""
clef : Means (ascii "\"\\uD834\\uDD1E\"") (Json.string (0x1D11E ∷ []))
unfolding pick either both then then_step past_while onward walk more_of starts escape_of nibble_of nibble_at hex_at escape_at
    unit_at unit_step string_at codes_at content_at plain_at value_by value_at ends_at is_text is_high is_low pair_of paired seen
clef = means_is _ _ refl refl

-- halves in the wrong order, and one alone (section 8.2: "\uDEAD")
halves : Means (ascii "\"\\uDD1E\\uD834\\uDEAD\\uDEAD\"") (Json.string (0xDD1E ∷ 0x1D2AD ∷ 0xDEAD ∷ []))
unfolding pick either both then then_step past_while onward walk more_of starts escape_of nibble_of nibble_at hex_at escape_at
    unit_at unit_step string_at codes_at content_at plain_at value_by value_at ends_at is_text is_high is_low pair_of paired seen
halves = means_is _ _ refl refl

-- members in the order of the text, one name twice, and a number as it stands
abbrev three : List Member
three =
    named (ascii "a") (Json.number (ascii "-2.50e1")) ∷
    named (ascii "b") (Json.array (elements (Json.true ∷ Json.null ∷ []))) ∷
    named (ascii "a") Json.false ∷ []

in_order : Means (ascii " {\"a\": -2.50e1, \"b\":[true ,null],\"\\u0061\":false}") (Json.object (members three))
unfolding pick either both then then_step past_while after past_colon onward walk more_of starts some_digits past_minus
    past_sign whole_at fraction_at signed_at exponent_at integer_at number_at escape_of nibble_of nibble_at hex_at escape_at
    unit_at unit_step string_at codes_at content_at literal_at plain_at item_step member_step array_of object_of value_by value_at
    ends_at is_text members_of place_of value_place elements_of is_high is_low pair_of paired seen
in_order = means_is _ _ refl refl

twice : Named (ascii "a") three (Json.number (ascii "-2.50e1") ∷ Json.false ∷ [])
twice =
    this-one refl (another (λ (e : ascii "b" ≡ ascii "a"). omega (arith, ap (λ l. get_or l 0 0) e))
    (this-one refl no_member))
