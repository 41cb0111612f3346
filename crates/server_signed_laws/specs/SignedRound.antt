-- A round of a server that signs with two seeds: DELE and its signature, CERT, SREP and its signature, operation by
-- operation. Each is what its contract says of its answer and of the buffer that it was lent.
use Rattle.std.specs.Prelude.{ℕ, ◌≡◌, List, take, Ok, Result}
use Rattle.ed25519_sign.specs.Signing.{public_of, signature_parts}
use Rattle.laws.specs.Written.{written}
use Rattle.refusal.specs.Refusal.{passed}
use Rattle.refusal.specs.declared.Refusal.{Refusal}
use Rattle.server_laws.specs.Round.{Round, root_in}
use Rattle.server_parts.specs.Delegation.{cert_bytes}
use Rattle.server_parts.specs.Signed.{srep_bytes, radius_code}
use Rattle.wire_request.specs.Answered.{wrote_number, answered}
use Rattle.wire_request.specs.Texts.{delegation_context, response_context}
use Rattle.server_signed_laws.specs.Signer.{Signer, dele_for}

-- A writer that refuses its input by `why`, and else writes p, was lent a buffer and answered n: its first n bytes
-- afterwards are `front`.
pub record Front (why : Refusal) (p front : List ℕ) : Type 0 where
  pub out : List ℕ
  pub left : List ℕ
  pub answer : Result ℕ Refusal
  pub n : ℕ
  pub answers : answer ≡ answered why p out
  pub leaves : left ≡ written (wrote_number answer) p out
  pub done : answer ≡ Ok n
  pub is : front ≡ take n left

pub record SignedRound (s : Signer) (r : Round) : Type 0 where
  -- `write_dele` wrote DELE,
  pub dele : List ℕ
  pub dele-is : Front passed (dele_for s) dele
  -- which was signed with the first seed, and `write_cert` wrote CERT with that signature;
  pub cert-is :
      Front passed
      (cert_bytes (public_of s.delegate) s.mint s.maxt (signature_parts s.long-term delegation_context dele))
      r.cert
  -- `write_srep` wrote SREP for the root of the rows,
  pub srep : List ℕ
  pub srep-is : Front (radius_code r.radi) (srep_bytes (root_in r) r.midp r.radi) srep
  -- which was signed with the second
  pub signature-is : r.signature ≡ signature_parts s.delegate response_context srep
