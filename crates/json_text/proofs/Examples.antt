-- Worked examples, computed: RFC 8259's of section 7, and RFC 3629's of section 7.
use mathlib.Core.Path.{◌≡◌, refl}
use mathlib.Core.List.{[], ◌∷◌}
use Rattle.laws.specs.Pick.{pick, either, both}
use Rattle.json_text.specs.Octets.{is_high, is_low, paired, joined, utf8, octets, none, encoded, text_of}

-- \uD834\uDD1E, the G clef (U+1D11E)
rfc-clef : joined (0xD834 ∷ 0xDD1E ∷ []) ≡ 0x1D11E ∷ []
unfolding pick both is_high is_low paired joined
rfc-clef = refl

clef-octets : text_of (0xD834 ∷ 0xDD1E ∷ []) ≡ octets (0xF0 ∷ 0x9D ∷ 0x84 ∷ 0x9E ∷ [])
unfolding pick either both is_high is_low paired joined utf8 encoded text_of
clef-octets = refl

-- "A", "not identical to", alpha and "."
rfc-mixed : text_of (0x0041 ∷ 0x2262 ∷ 0x0391 ∷ 0x002E ∷ [])
    ≡ octets (0x41 ∷ 0xE2 ∷ 0x89 ∷ 0xA2 ∷ 0xCE ∷ 0x91 ∷ 0x2E ∷ [])
unfolding pick either both is_high is_low paired joined utf8 encoded text_of
rfc-mixed = refl

-- a mark of the byte order, and a Chinese character of four octets
rfc-four : text_of (0xFEFF ∷ 0x233B4 ∷ []) ≡ octets (0xEF ∷ 0xBB ∷ 0xBF ∷ 0xF0 ∷ 0xA3 ∷ 0x8E ∷ 0xB4 ∷ [])
unfolding pick either both is_high is_low paired joined utf8 encoded text_of
rfc-four = refl

-- \uDEAD alone (section 8.2), and a pair the wrong way round
rfc-dead : text_of (0xDEAD ∷ []) ≡ none
unfolding pick either both is_high is_low joined encoded text_of
rfc-dead = refl

turned : text_of (0xDD1E ∷ 0xD834 ∷ []) ≡ none
unfolding pick either both is_high is_low joined encoded text_of
turned = refl
