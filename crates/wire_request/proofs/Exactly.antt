-- Where each operation writes: exactly where none of its codes applies.
use Rattle.std.specs.Prelude.{Ok}
use mathlib.Core.Path.{◌≡◌, refl, sym}
use mathlib.Core.List.{List}
use mathlib.Core.Logic.{◌↔◌}
use Prim.Native.Nat.{ℕ, ◌≤◌}
use lib.ListN.{length}
use Rattle.refusal.specs.Refusal.{passed}
use Rattle.wire_packet.specs.Response.{signed_code}
use Rattle.wire_request.specs.Answered.{answered}
use Rattle.wire_request.specs.Request.{request_bytes}
use Rattle.wire_request.specs.Texts.{delegation_text, response_text}
use Rattle.wire_request.proofs.Answered.{done-exactly}
use Rattle.wire_request.proofs.RequestPieces.{length-request}

-- `write_request`: where the buffer has 1,036 bytes
pub request-exactly : (key nonce out : List ℕ) → length nonce ≡ 32
    → answered passed (request_bytes key nonce) out ≡ Ok 1036 ↔ 1036 ≤ length out
request-exactly key nonce out n32 =
    let n = length-request key nonce n32 in
    let exactly = done-exactly passed (request_bytes key nonce) out 1036 in
    (λ e. (exactly.0 e).1.1, λ h. exactly.1 (refl, (sym n, h)))

module _ (p out : List ℕ) (n : ℕ) where
  -- `delegation_text`: where none of the codes 1 to 7 applies to the packet and the buffer has room for the text
  pub delegation-exactly : answered (signed_code p) (delegation_text p) out ≡ Ok n
      ↔ (((signed_code p).code ≡ 0) × ((n ≡ length (delegation_text p)) × (n ≤ length out)))
  delegation-exactly = done-exactly (signed_code p) (delegation_text p) out n

  -- `response_text`: the same
  pub response-exactly : answered (signed_code p) (response_text p) out ≡ Ok n
      ↔ (((signed_code p).code ≡ 0) × ((n ≡ length (response_text p)) × (n ≤ length out)))
  response-exactly = done-exactly (signed_code p) (response_text p) out n
