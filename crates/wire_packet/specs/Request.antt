-- Reading a request (draft 19, 5.1): codes 1 to 8 in order, and what a good one says.
use Rattle.std.specs.Prelude.{ℕ, List, [], ◌∷◌, Bool, not, cond, eqb, Option, None, Some, Result}
use Rattle.laws.specs.Numbers.{le}
use Rattle.refusal.specs.Refusal.{answer, shifted, first, when}
use Rattle.refusal.specs.declared.Refusal.{Refusal}
use Rattle.wire_message.specs.Rules.{message_code}
use Rattle.wire_message.specs.Tags.{VER, SRV, NONC, TYPE}
use Rattle.wire_message.specs.Values.{has, value_of}
use Rattle.wire_packet.specs.Packet.{packet_code, body_start, body}
use Rattle.wire_packet.specs.Tables.{request_table}
use Rattle.wire_packet.specs.Versions.{lacks_version}
use Rattle.wire_packet.specs.declared.Request.{Request}

-- codes 4 to 8 of a request's message: its shape, then that TYPE is 0 and VER holds 1
unfoldable pub request_message_code : List ℕ → Refusal
request_message_code m =
    first
    (message_code m request_table
    ∷ when (not (eqb (le 4 (value_of m TYPE) 0) 0)) 8
    ∷ when (lacks_version (value_of m VER) 1) 8
    ∷ [])

-- codes 1 to 8 of a request packet: the packet's, then its message's, with their place in the packet
unfoldable pub request_code : List ℕ → Refusal
request_code p = first (packet_code p ∷ shifted body_start (request_message_code (body p)) ∷ [])

-- the request is refused
unfoldable pub request_bad : List ℕ → Bool
request_bad p = not (eqb (request_code p).code 0)

-- the SRV value of a good one, of its message, where it has one
unfoldable pub srv_in : List ℕ → Option (List ℕ)
srv_in m = cond (has m SRV) (Some (value_of m SRV)) None

-- what a good one says, of its message
unfoldable pub request_in : List ℕ → Request
request_in m = record { nonc = value_of m NONC; srv = srv_in m }

-- what reading a request packet answers
unfoldable pub request_of : List ℕ → Result Request Refusal
request_of p = answer (request_code p) (request_in (body p))
