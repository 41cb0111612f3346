-- Worked examples of RFC 3629, section 7, computed: the numbers of the characters that a string holds.
use mathlib.Core.Path.{◌≡◌, refl}
use mathlib.Core.List.{[], ◌∷◌}
use Rattle.laws.specs.Pick.{pick, both}
use Rattle.json_tokens.specs.Walk.{onward, walk, more_of, starts}
use Rattle.json_strings.specs.Text.{least_second, most_second, second_at, tail_at, more_bits, two_at, three_at, four_at, long_at}
use Rattle.json_strings.specs.Text.{wide_at, unit_at, unit_step, codes_at, content_at}

-- "A", "not identical to", alpha and "."
rfc-mixed : content_at (0x41 ∷ 0xE2 ∷ 0x89 ∷ 0xA2 ∷ 0xCE ∷ 0x91 ∷ 0x2E ∷ 0x22 ∷ []) 0
    ≡ 0x0041 ∷ 0x2262 ∷ 0x0391 ∷ 0x002E ∷ []
unfolding pick both onward walk more_of starts least_second most_second second_at tail_at more_bits two_at three_at four_at
    long_at wide_at unit_at unit_step codes_at content_at
rfc-mixed = refl

-- the Korean word for the Korean language
rfc-korean : content_at (0xED ∷ 0x95 ∷ 0x9C ∷ 0xEA ∷ 0xB5 ∷ 0xAD ∷ 0xEC ∷ 0x96 ∷ 0xB4 ∷ 0x22 ∷ []) 0
    ≡ 0xD55C ∷ 0xAD6D ∷ 0xC5B4 ∷ []
unfolding pick both onward walk more_of starts least_second most_second second_at tail_at more_bits two_at three_at four_at
    long_at wide_at unit_at unit_step codes_at content_at
rfc-korean = refl

-- a mark of the byte order, and a Chinese character of four bytes
rfc-four : content_at (0xEF ∷ 0xBB ∷ 0xBF ∷ 0xF0 ∷ 0xA3 ∷ 0x8E ∷ 0xB4 ∷ 0x22 ∷ []) 0 ≡ 0xFEFF ∷ 0x233B4 ∷ []
unfolding pick both onward walk more_of starts least_second most_second second_at tail_at more_bits two_at three_at four_at
    long_at wide_at unit_at unit_step codes_at content_at
rfc-four = refl
