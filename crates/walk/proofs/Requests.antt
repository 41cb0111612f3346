-- The request that is asked, as `write_request` leaves it in a buffer.
use Rattle.refusal.specs.declared.Refusal.{Refusal}
use Rattle.std.specs.Prelude.{Ok, Result}
use Prim.Native.Nat.{ℕ, ◌≤◌}
use mathlib.Core.Path.{◌≡◌, sym, ap, ◌∙◌}
use mathlib.Core.List.{List, [], ◌++◌, append-nil}
use native.Mathlib.Omega.{arith}
use lib.ListN.{length, drop, replicate, drop_of_length-le}
use Rattle.laws.specs.Written.{written}
use Rattle.refusal.specs.Refusal.{passed}
use Rattle.wire_request.specs.Answered.{wrote_number}
use Rattle.wire_request.specs.Request.{request_bytes}
use Rattle.wire_request.proofs.Answered.{Writes, done-exactly}
use Rattle.wire_request.proofs.RequestPieces.{length-request}
use Rattle.walk.specs.State.{key_of, request_now}
use Rattle.walk.specs.declared.Walk.{Walk}

module _ (w : Walk) where
  -- with room for it, it is written
  pub request-written : {key d : List ℕ} {r : Result ℕ Refusal} (out : List ℕ) → length w.nonce ≡ 32 → 1036 ≤ length out
      → key ≡ key_of w → Writes passed (request_bytes key w.nonce) out r d → d ≡ written 0 (request_now w) out
  unfolding request_now
  request-written {key} {d} {r} out n room e put =
      let long : length (request_bytes key w.nonce) ≡ 1036 = length-request key w.nonce n in
      let done : r ≡ Ok 1036 =
      put.0 ∙ (done-exactly passed (request_bytes key w.nonce) out 1036).1 (omega arith, (sym long, room)) in
      put.1
      ∙ ap (λ (x : Result ℕ Refusal). written (wrote_number x) (request_bytes key w.nonce) out) done
      ∙ ap (λ (k : List ℕ). written 0 (request_bytes k w.nonce) out) e

  -- and fills a buffer of just its length
  pub request-whole : length w.nonce ≡ 32 → written 0 (request_now w) (replicate 1036 0) ≡ request_now w
  unfolding request_now
  request-whole n =
      let q = request_bytes (key_of w) w.nonce in
      let long : length q ≡ 1036 = length-request (key_of w) w.nonce n in
      let o : List ℕ = replicate 1036 0 in
      let none : drop (length q) o ≡ [] = drop_of_length-le o {i = length q} (omega arith) in
      ap (λ (l : List ℕ). q ++ l) none ∙ append-nil q
