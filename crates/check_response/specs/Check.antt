-- The response check (draft 19, 5.4) as a row of checks, in document 01's order: 14, then 1 to 13.
use Rattle.std.specs.Prelude.{ℕ, List, [], ◌∷◌, Bool, not, cond, eqb, ltb, Err, Ok, Result}
use Rattle.hash.specs.Hashes.{leaf_of}
use Rattle.laws.specs.Any.{any}
use Rattle.laws.specs.Same.{same}
use Rattle.wire_message.specs.Tags.{VER, NONC, PATH, PUBK, ROOT}
use Rattle.wire_message.specs.Values.{value_of}
use Rattle.refusal.specs.Refusal.{first, when}
use Rattle.refusal.specs.declared.Refusal.{Refusal}
use Rattle.tree.specs.PathCheck.{leads_of}
use Rattle.wire_packet.specs.Blank.{zeros32}
use Rattle.wire_packet.specs.Packet.{body}
use Rattle.wire_packet.specs.Request.{request_bad}
use Rattle.wire_packet.specs.Response.{srep, dele, indx_in, ver_in, vers_in, radi_in, midp_in, mint_in, maxt_in, response_code}
use Rattle.wire_packet.specs.Versions.{lacks_version}
use Rattle.check_response.specs.Downgrade.{downgrades}
use Rattle.check_response.specs.Window.{window_of}
use Rattle.check_response.specs.declared.Checked.{Checked}
use Rattle.check_response.specs.declared.Window.{Window}

-- PATH leads from the leaf of the whole request packet q to ROOT, and INDX needs no more bits than it has siblings
abbrev pub path_leads : List ℕ → List ℕ → Bool
path_leads q b = leads_of (leaf_of q) (indx_in b) (value_of b PATH) (value_of (srep b) ROOT)

-- ---- the checks, of a request's message a and a response's message b

-- 8: SREP's VER does not stand in the request's VER
unfoldable pub version_unasked : List ℕ → List ℕ → Bool
version_unasked a b = lacks_version (value_of a VER) (ver_in b)

-- 8: a version that stands in both VERS and the request's VER is larger than SREP's VER (request P4)
unfoldable pub version_downgraded : List ℕ → List ℕ → Bool
version_downgraded a b = downgrades (vers_in b) (value_of a VER) (ver_in b)

-- 9: NONC differs
unfoldable pub nonce_differs : List ℕ → List ℕ → Bool
nonce_differs a b = not (same (value_of a NONC) (value_of b NONC))

-- 10: INDX too large or root not reached
unfoldable pub path_misses : List ℕ → List ℕ → Bool
path_misses q b = not (path_leads q b)

-- 11: MIDP outside MINT..MAXT
unfoldable pub time_outside : List ℕ → Bool
time_outside b = any (ltb (midp_in b) (mint_in b) ∷ ltb (maxt_in b) (midp_in b) ∷ [])

-- 12 and 13: a signature answer is no
unfoldable pub answers_code : Bool → Bool → Refusal
answers_code d s = first (when (not d) 12 ∷ when (not s) 13 ∷ [])

-- codes 8 to 13: the response's message b to the packet q, whose message is a; d and s are the signature answers
unfoldable pub agreement_code : List ℕ → List ℕ → List ℕ → Bool → Bool → Refusal
agreement_code q a b d s =
    first
    (when (version_unasked a b) 8
    ∷ when (version_downgraded a b) 8
    ∷ when (nonce_differs a b) 9
    ∷ when (path_misses q b) 10
    ∷ when (time_outside b) 11
    ∷ answers_code d s
    ∷ [])

-- 14: the request lent with a response is bad; then 1 to 8 of the response alone; then its agreement with the request
unfoldable pub check_code : List ℕ → List ℕ → Bool → Bool → Refusal
check_code q p d s = first (when (request_bad q) 14 ∷ response_code p ∷ agreement_code q (body q) (body p) d s ∷ [])

-- ---- the answer

-- the window of a response, of its message, with MINT and MAXT of its own DELE (request P9)
unfoldable pub window_in : List ℕ → Window
window_in b = window_of (midp_in b) (radi_in b) (mint_in b) (maxt_in b)

-- the delegated key of a response, of its message: PUBK of its own DELE
abbrev pub pubk_in : List ℕ → List ℕ
pubk_in b = value_of (dele b) PUBK

-- the answer by its refusal: the window w where nothing is refused
abbrev pub verdict_by : Refusal → Window → Result Window Refusal
verdict_by why w = cond (eqb why.code 0) (Ok w) (Err why)

-- what the check answers to the response packet p to the request packet q
unfoldable pub verdict_of : List ℕ → List ℕ → Bool → Bool → Result Window Refusal
verdict_of q p d s = verdict_by (check_code q p d s) (window_in (body p))

-- the delegated key beside an answer, by its refusal: 32 zero bytes where something is refused (request P9)
abbrev pub key_by : Refusal → List ℕ → List ℕ
key_by why key = cond (eqb why.code 0) key zeros32

-- the key that the check hands out
unfoldable pub key_of : List ℕ → List ℕ → Bool → Bool → List ℕ
key_of q p d s = key_by (check_code q p d s) (pubk_in (body p))

-- the two, one beside the other
abbrev pub checked_of : List ℕ → List ℕ → Bool → Bool → Checked
checked_of q p d s = record { verdict = verdict_of q p d s; pubk = key_of q p d s }

-- document 01's number of an answer: 0 with the window, or the refusal's
abbrev pub verdict_number : Result Window Refusal → ℕ
verdict_number (Ok w) = 0
verdict_number (Err why) = why.code

-- the byte place of an answer, 0 where it carries none (request P8)
abbrev pub verdict_at : Result Window Refusal → ℕ
verdict_at (Ok w) = 0
verdict_at (Err why) = why.at
