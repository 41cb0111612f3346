-- SREP as a server writes it (request P1; draft 19, 5.2.5): what the server signs.
use Rattle.std.specs.Prelude.{List, [], ◌∷◌, ℕ, eqb}
use Rattle.laws.specs.Numbers.{le_bytes}
use Rattle.wire_message.specs.Encode.{Field, ◌≔◌, encode}
use Rattle.wire_message.specs.Tags.{VER, RADI, MIDP, VERS, ROOT}
use Rattle.refusal.specs.Refusal.{when}
use Rattle.refusal.specs.declared.Refusal.{Refusal}

-- version 1, which is also all of VERS; RADI and MIDP; the root of the batch
abbrev pub srep_fields : List ℕ → ℕ → ℕ → List Field
srep_fields root midp radi =
    VER ≔ le_bytes 4 1
    ∷ RADI ≔ le_bytes 4 radi
    ∷ MIDP ≔ le_bytes 8 midp
    ∷ VERS ≔ le_bytes 4 1
    ∷ ROOT ≔ root
    ∷ []

-- the whole message, of 92 bytes
unfoldable pub srep_bytes : List ℕ → ℕ → ℕ → List ℕ
srep_bytes root midp radi = encode (srep_fields root midp radi)

-- 7: RADI is 0. It carries no place, since there are no bytes yet in which it could stand
abbrev pub radius_code : ℕ → Refusal
radius_code radi = when (eqb radi 0) 7
