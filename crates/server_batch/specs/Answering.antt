-- What the call answers and leaves (draft 19, 5.2 and 5.3; the order of the codes is 7, 4 to 7 of CERT, 35, 11, 20,
-- 19).
use Rattle.std.specs.Prelude.{Bool, not, cond, List, [], ◌∷◌, ◌≡◌, ℕ, zero, suc, ◌+◌, ◌*◌, eqb, ltb, length, Err, Ok, Result}
use Rattle.laws.specs.Any.{any}
use Rattle.laws.specs.Flat.{flat}
use Rattle.laws.specs.Pasted.{pasted, fronted}
use Rattle.laws.specs.Same.{same}
use Rattle.laws.specs.Upto.{upto}
use Rattle.laws.specs.Written.{written}
use Rattle.refusal.specs.Refusal.{first, when}
use Rattle.refusal.specs.declared.Refusal.{Refusal}
use Rattle.tree.specs.Tree.{depth_of}
use Rattle.tree_build.specs.AllRows.{nodes_of}
use Rattle.tree_build.specs.Building.{rows_bytes}
use Rattle.tree_build.specs.Leaves.{most}
use Rattle.ed25519_sign.specs.Signing.{public_of, signature_parts}
use Rattle.wire_message.specs.Tags.{PUBK}
use Rattle.wire_message.specs.Values.{value_of}
use Rattle.wire_request.specs.Texts.{response_context}
use Rattle.server_parts.specs.Signed.{srep_bytes, radius_code}
use Rattle.server_response.specs.Refusing.{dele_of, cert_code, midp_outside}
use Rattle.server_batch.specs.Batch.{Batch, count, answered_at, answers, leaves, root_in, longest, answer_at}

-- ---- What is refused, before anything is written

-- 35: the seed is not that of the delegated key
unfoldable pub other_key : List ℕ → List ℕ → Bool
other_key seed cert = not (same (public_of seed) (value_of (dele_of cert) PUBK))

-- 20: no packet, or more than 1,024
unfoldable pub count_wrong : ℕ → Bool
count_wrong n = any (eqb n 0 ∷ ltb most n ∷ [])

-- 19: of n packets, the slots, the rows, the slots of the answers or the lengths are too few, or a slot is too short
-- for an answer with the path of n leaves and a CERT of c bytes
unfoldable pub room_short : ℕ → ℕ → ℕ → ℕ → ℕ → ℕ → ℕ → ℕ → Bool
room_short n c packets slot rows out room lengths =
    any
    (ltb packets (slot * n)
    ∷ ltb rows (32 * nodes_of (depth_of n))
    ∷ ltb out (room * n)
    ∷ ltb lengths n
    ∷ ltb room (264 + 32 * depth_of n + c)
    ∷ [])

-- what concerns the keys: 7 for RADI 0; 4 to 7 for CERT and its DELE; 35; 11
unfoldable pub keys_code : List ℕ → List ℕ → ℕ → ℕ → Refusal
keys_code cert seed midp radi =
    first
    (radius_code radi
    ∷ cert_code cert
    ∷ when (other_key seed cert) 35
    ∷ when (midp_outside midp cert) 11
    ∷ [])

unfoldable pub sizes_code : ℕ → ℕ → ℕ → ℕ → ℕ → ℕ → ℕ → ℕ → Refusal
sizes_code n c packets slot rows out room lengths =
    first (when (count_wrong n) 20 ∷ when (room_short n c packets slot rows out room lengths) 19 ∷ [])

unfoldable pub batch_code : Batch → List ℕ → List ℕ → ℕ → ℕ → ℕ → ℕ → ℕ → ℕ → Refusal
batch_code b cert seed midp radi rows out room lengths =
    first
    (keys_code cert seed midp radi
    ∷ sizes_code (count b) (length cert) (length b.packets) b.slot rows out room lengths
    ∷ [])

-- ---- What is answered

-- how many packets were answered, or why nothing was written
unfoldable pub batch_answer : Batch → List ℕ → Refusal → Result ℕ Refusal
batch_answer b cert why = cond (eqb why.code 0) (Ok (answers b (longest b (length cert)))) (Err why)

-- document 01's number of an answer, 0 where nothing is refused
abbrev pub batch_number : Result ℕ Refusal → ℕ
batch_number (Ok n) = 0
batch_number (Err why) = why.code

-- what a buffer holds after a call with this number: what is left where it is 0, and else what it held before
abbrev pub left_by : ℕ → List ℕ → List ℕ → List ℕ
left_by number left before = cond (eqb number 0) left before

-- ---- What is left, where nothing is refused: `least` is how long a packet must be that is answered

-- the rows of the tree at the front of the buffer, where any packet is answered
unfoldable pub rows_left : Batch → ℕ → List ℕ → List ℕ
rows_left b least rows = cond (eqb (answers b least) 0) rows (written 0 (rows_bytes (flat (leaves b least))) rows)

-- the signature over the SREP of all
unfoldable pub signature_over : List ℕ → List ℕ → ℕ → ℕ → List ℕ
signature_over seed root midp radi = signature_parts seed response_context (srep_bytes root midp radi)

-- the answers, each at the front of its slot of `room` bytes: after the first n packets
unfoldable pub out_after : (ℕ → Bool) → (ℕ → List ℕ) → ℕ → List ℕ → ℕ → List ℕ
out_after answered answer room out zero = out
out_after answered answer room out (suc n) =
    cond (answered n) (pasted (out_after answered answer room out n) (room * n) (answer n))
    (out_after answered answer room out n)

unfoldable pub out_left : Batch → ℕ → List ℕ → List ℕ → ℕ → ℕ → ℕ → List ℕ → List ℕ
out_left b least cert signature midp radi room out =
    out_after (answered_at b least) (answer_at b least midp radi cert signature) room out (count b)

-- and their lengths, 0 where there is none
unfoldable pub lengths_left : Batch → ℕ → List ℕ → List ℕ → ℕ → ℕ → List ℕ → List ℕ
lengths_left b least cert signature midp radi lengths =
    fronted
    (upto (λ i. cond (answered_at b least i) (length (answer_at b least midp radi cert signature i)) 0) (count b)) lengths

-- all three, after a call whose answer has this number
pub record LeftBy (b : Batch) (cert seed : List ℕ) (midp radi room : ℕ) (rows out lengths : List ℕ) (number : ℕ)
    (rows-after out-after lengths-after : List ℕ) : Type 0 where
  pub of-rows : rows-after ≡ left_by number (rows_left b (longest b (length cert)) rows) rows
  pub of-out : out-after
      ≡ left_by number
      (out_left b (longest b (length cert)) cert
      (signature_over seed (root_in b (longest b (length cert))) midp radi) midp radi room out) out
  pub of-lengths : lengths-after
      ≡ left_by number
      (lengths_left b (longest b (length cert)) cert
      (signature_over seed (root_in b (longest b (length cert))) midp radi) midp radi lengths) lengths
