-- Which responses a server does not write (requests P1, P4, P8): a row of checks in the requests' order. 19 comes
-- behind it, as in every writer.
use Rattle.std.specs.Prelude.{Bool, not, List, [], ◌∷◌, ℕ, ltb, length}
use Rattle.hash.specs.Hashes.{leaf_of}
use Rattle.laws.specs.Any.{any}
use Rattle.laws.specs.Numbers.{le}
use Rattle.wire_message.specs.Rules.{message_code}
use Rattle.wire_message.specs.Tags.{DELE, MINT, MAXT}
use Rattle.wire_message.specs.Values.{value_of, value_start}
use Rattle.refusal.specs.Refusal.{shifted, first, when}
use Rattle.refusal.specs.declared.Refusal.{Refusal}
use Rattle.tree.specs.PathCheck.{leads_of}
use Rattle.wire_packet.specs.Request.{request_bad}
use Rattle.wire_packet.specs.Tables.{cert_table, dele_table}
use Rattle.server_parts.specs.Signed.{radius_code}
use Rattle.server_response.specs.Response.{Reply, response_bytes}

-- the DELE within the value of CERT, and its first and last second
abbrev pub dele_of : List ℕ → List ℕ
dele_of cert = value_of cert DELE

abbrev pub mint_of : List ℕ → ℕ
mint_of cert = le 8 (value_of (dele_of cert) MINT) 0

abbrev pub maxt_of : List ℕ → ℕ
maxt_of cert = le 8 (value_of (dele_of cert) MAXT) 0

-- 4 to 7 of the value of CERT, then of its DELE; a place is counted from the start of that value
unfoldable pub cert_code : List ℕ → Refusal
cert_code cert =
    first (message_code cert cert_table ∷ shifted (value_start cert DELE) (message_code (dele_of cert) dele_table) ∷ [])

-- 10: the path is not 0 to 32 whole siblings or, by document 01's check with INDX, does not lead from the request's
-- leaf to the root
unfoldable pub reply_misses : List ℕ → ℕ → List ℕ → List ℕ → Bool
reply_misses request indx path root = not (leads_of (leaf_of request) indx path root)

-- 11: MIDP outside MINT..MAXT
unfoldable pub midp_outside : ℕ → List ℕ → Bool
midp_outside midp cert = any (ltb midp (mint_of cert) ∷ ltb (maxt_of cert) midp ∷ [])

-- 23: the response would be longer than the request that it answers
unfoldable pub reply_longer : Reply → Bool
reply_longer a = ltb (length a.request) (length (response_bytes a))

-- 14 for a bad request; 7 for RADI 0; 4 to 7 for CERT and its DELE; 10; 11; 23
unfoldable pub reply_code : Reply → Refusal
reply_code a =
    first
    (when (request_bad a.request) 14
    ∷ radius_code a.radi
    ∷ cert_code a.cert
    ∷ when (reply_misses a.request a.indx a.path a.root) 10
    ∷ when (midp_outside a.midp a.cert) 11
    ∷ when (reply_longer a) 23
    ∷ [])
