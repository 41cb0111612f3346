-- Reading a response (draft 19, 5.2; request P4): codes 1 to 8 in order, and what a good one says.
use Rattle.std.specs.Prelude.{ℕ, ◌+◌, List, [], ◌∷◌, Bool, not, eqb, Result}
use Rattle.laws.specs.Numbers.{le}
use Rattle.refusal.specs.Refusal.{answer, shifted, first, when}
use Rattle.refusal.specs.declared.Refusal.{Refusal}
use Rattle.wire_message.specs.Rules.{message_code}
use Rattle.wire_message.specs.Tags.{VER, NONC, DELE, TYPE, RADI, MIDP, SREP, VERS, MINT, ROOT, CERT, MAXT, INDX}
use Rattle.wire_message.specs.Values.{value_of, value_start}
use Rattle.wire_packet.specs.Packet.{packet_code, body_start, body}
use Rattle.wire_packet.specs.Tables.{root_table, srep_table, cert_table, dele_table}
use Rattle.wire_packet.specs.Versions.{lacks_version}
use Rattle.wire_packet.specs.declared.Response.{Response}

-- the messages within a response's
abbrev pub srep : List ℕ → List ℕ
srep m = value_of m SREP

abbrev pub cert : List ℕ → List ℕ
cert m = value_of m CERT

abbrev pub dele : List ℕ → List ℕ
dele m = value_of (cert m) DELE

-- what they say in numbers, VERS in a list of them (5.2.3, 5.2.5, 5.2.6, 5.2.7)
abbrev pub type_in : List ℕ → ℕ
type_in m = le 4 (value_of m TYPE) 0

abbrev pub indx_in : List ℕ → ℕ
indx_in m = le 4 (value_of m INDX) 0

abbrev pub ver_in : List ℕ → ℕ
ver_in m = le 4 (value_of (srep m) VER) 0

abbrev pub vers_in : List ℕ → List ℕ
vers_in m = value_of (srep m) VERS

abbrev pub radi_in : List ℕ → ℕ
radi_in m = le 4 (value_of (srep m) RADI) 0

abbrev pub midp_in : List ℕ → ℕ
midp_in m = le 8 (value_of (srep m) MIDP) 0

abbrev pub mint_in : List ℕ → ℕ
mint_in m = le 8 (value_of (dele m) MINT) 0

abbrev pub maxt_in : List ℕ → ℕ
maxt_in m = le 8 (value_of (dele m) MAXT) 0

-- where they start in it (request P8)
abbrev pub srep_start : List ℕ → ℕ
srep_start m = value_start m SREP

abbrev pub cert_start : List ℕ → ℕ
cert_start m = value_start m CERT

abbrev pub dele_start : List ℕ → ℕ
dele_start m = cert_start m + value_start (cert m) DELE

-- codes 4 to 7 of the message m: the root's, then SREP's, CERT's, DELE's, with their place in m
unfoldable pub shape_code : List ℕ → Refusal
shape_code m =
    first
    (message_code m root_table
    ∷ shifted (srep_start m) (message_code (srep m) srep_table)
    ∷ shifted (cert_start m) (message_code (cert m) cert_table)
    ∷ shifted (dele_start m) (message_code (dele m) dele_table)
    ∷ [])

-- codes 1 to 7 of a response packet, with their place in it: what the signed texts ask
unfoldable pub signed_code : List ℕ → Refusal
signed_code p = first (packet_code p ∷ shifted body_start (shape_code (body p)) ∷ [])

-- VERS does not hold SREP's VER (5.2.5)
unfoldable pub version_unlisted : List ℕ → Bool
version_unlisted m = lacks_version (vers_in m) (ver_in m)

-- codes 4 to 8: the shape, then that TYPE is 1, SREP's VER is 1, and VERS holds it
unfoldable pub response_message_code : List ℕ → Refusal
response_message_code m =
    first
    (shape_code m
    ∷ when (not (eqb (type_in m) 1)) 8
    ∷ when (not (eqb (ver_in m) 1)) 8
    ∷ when (version_unlisted m) 8
    ∷ [])

-- codes 1 to 8 of a response packet, with their place in it
unfoldable pub response_code : List ℕ → Refusal
response_code p = first (packet_code p ∷ shifted body_start (response_message_code (body p)) ∷ [])

-- what a good one says, of its message
unfoldable pub response_in : List ℕ → Response
response_in m =
    record {
      nonc = value_of m NONC;
      indx = indx_in m;
      midp = midp_in m;
      radi = radi_in m;
      root = value_of (srep m) ROOT;
    }

-- what reading a response packet answers
unfoldable pub response_of : List ℕ → Result Response Refusal
response_of p = answer (response_code p) (response_in (body p))
