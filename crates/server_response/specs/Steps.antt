-- What private functions promise: the checks with the response's length as the sum that code compares, and the bytes of
-- a response in two pieces. No contract of an operation cites it.
use Rattle.std.specs.Prelude.{List, [], ◌∷◌, ◌++◌, ℕ, ◌+◌, ltb, length}
use Rattle.wire_message.specs.Encode.{words}
use Rattle.wire_message.specs.Tags.{SIG, NONC, TYPE, PATH, SREP, CERT, INDX}
use Rattle.refusal.specs.Refusal.{first, when}
use Rattle.refusal.specs.declared.Refusal.{Refusal}
use Rattle.wire_packet.specs.Packet.{mark}
use Rattle.wire_packet.specs.Request.{request_bad}
use Rattle.server_response.specs.Refusing.{cert_code, reply_misses, midp_outside}
use Rattle.server_parts.specs.Signed.{srep_bytes, radius_code}

-- 11 and 23, where the response would have n bytes
unfoldable pub fit_code : List ℕ → ℕ → List ℕ → ℕ → Refusal
fit_code request midp cert n = first (when (midp_outside midp cert) 11 ∷ when (ltb (length request) n) 23 ∷ [])

-- the whole row
unfoldable pub tests_code : List ℕ → ℕ → List ℕ → List ℕ → ℕ → ℕ → List ℕ → Refusal
tests_code request indx root path midp radi cert =
    first
    (when (request_bad request) 14
    ∷ radius_code radi
    ∷ cert_code cert
    ∷ when (reply_misses request indx path root) 10
    ∷ fit_code request midp cert (264 + length path + length cert)
    ∷ [])

-- the bytes before the path, of which there are p, and of CERT c: the mark, the length, the header of the message, and
-- the first three values
unfoldable pub front_bytes : List ℕ → List ℕ → ℕ → ℕ → List ℕ
front_bytes signature nonce p c =
    mark
    ++ (words
    ((252 + p + c)
    ∷ 7
    ∷ 64
    ∷ 96
    ∷ 100
    ∷ (100 + p)
    ∷ (192 + p)
    ∷ (192 + p + c)
    ∷ SIG
    ∷ NONC
    ∷ TYPE
    ∷ PATH
    ∷ SREP
    ∷ CERT
    ∷ INDX
    ∷ [])
    ++ (signature ++ (nonce ++ words (1 ∷ []))))

-- the bytes behind the path
unfoldable pub behind_bytes : List ℕ → ℕ → ℕ → List ℕ → ℕ → List ℕ
behind_bytes root midp radi cert indx = srep_bytes root midp radi ++ (cert ++ words (indx ∷ []))

-- the path and the bytes behind it
unfoldable pub rest_bytes : List ℕ → List ℕ → ℕ → ℕ → List ℕ → ℕ → List ℕ
rest_bytes path root midp radi cert indx = path ++ behind_bytes root midp radi cert indx
