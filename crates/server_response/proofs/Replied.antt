-- The checks as code makes them are those of the definition, and what they say where they refuse nothing.
use Prim.Native.Nat.{ℕ, ◌+◌, ◌≤◌}
use mathlib.Core.Path.{◌≡◌, refl, sym, ap}
use mathlib.Core.Bool.{Bool, true, false}
use mathlib.Core.List.{List, [], ◌∷◌}
use native.Mathlib.Omega.{arith}
use borrow.Author.Tests.{ltb-false}
use lib.Dec.{ltb}
use lib.ListN.{length}
use Rattle.laws.specs.First.{first_of, when_of}
use Rattle.laws.proofs.First.{quiet_of, row-quiet, test-quiet}
use Rattle.refusal.specs.Refusal.{refusals, first, when}
use Rattle.refusal.specs.declared.Refusal.{Refusal}
use Rattle.wire_packet.specs.Facts.{Asks}
use Rattle.wire_packet.specs.Packet.{body}
use Rattle.wire_packet.specs.Request.{request_bad, request_code}
use Rattle.wire_packet.proofs.Packets.{packet-0}
use Rattle.wire_packet.proofs.RequestCodes.{lent-good, lent-body}
use Rattle.server_response.specs.Refusing.{cert_code, reply_misses, midp_outside, reply_longer, reply_code}
use Rattle.server_response.specs.Response.{Reply}
use Rattle.server_parts.specs.Signed.{radius_code}
use Rattle.server_response.specs.Steps.{fit_code, tests_code}
use Rattle.server_response.proofs.Pieces.{Sized, length-response}

-- a request that is not bad is not too long
pub lent-short : (q : List ℕ) → request_bad q ≡ false → length q ≤ 2000
unfolding request_code
lent-short q f = (packet-0 q (row-quiet refusals _ _ (lent-good q refl f)).0).most

module _ (a : Reply) (r32 : length a.root ≡ 32) (s64 : length a.signature ≡ 64) where
  abbrev tests : Refusal
  tests = tests_code a.request a.indx a.root a.path a.midp a.radi a.cert

  -- where the request is good, its nonce has 32 bytes,
  pub sized : request_bad a.request ≡ false → Sized a
  sized f =
      record {
        nonce-long = (lent-body a.request refl f).1.nonc-long;
        root-long = r32;
        signature-long = s64;
      }

  -- so that the response has the length that code compares
  tests_by : (t : Bool) → request_bad a.request ≡ t → tests ≡ reply_code a
  unfolding tests_code fit_code reply_code reply_longer first_of when_of
  tests_by true e = rw e
  tests_by false e =
      ap (
      λ (n : ℕ).
      first
      (when (request_bad a.request) 14
      ∷ radius_code a.radi
      ∷ cert_code a.cert
      ∷ when (reply_misses a.request a.indx a.path a.root) 10
      ∷ when (midp_outside a.midp a.cert) 11
      ∷ when (ltb (length a.request) n) 23
      ∷ [])
      ) (sym (length-response a (sized e)))

  pub tests-are : tests ≡ reply_code a
  tests-are = tests_by (request_bad a.request) refl

  -- where they refuse nothing, which code has as x: the request is good, and the response fits
  pub record Answered : Type 0 where
    pub long : 12 ≤ length a.request
    pub asks : Asks (body a.request)
    pub sizes : Sized a
    pub fits : 264 + length a.path + length a.cert ≤ 2000

  pub answered-by : {x : Refusal} → x ≡ tests → x.code ≡ 0 → Answered
  unfolding tests_code fit_code
  answered-by e z =
      let c14 = row-quiet refusals _ _ (quiet_of refusals e z) in
      let c7 = row-quiet refusals _ _ c14.1 in
      let c4 = row-quiet refusals _ _ c7.1 in
      let c10 = row-quiet refusals _ _ c4.1 in
      let c11 = row-quiet refusals _ _ (row-quiet refusals _ _ c10.1).0 in
      let good = test-quiet refusals _ _ tt c14.0 in
      let b = lent-body a.request refl good in
      let n = 264 + length a.path + length a.cert in
      let short = test-quiet refusals (ltb (length a.request) n) _ tt (row-quiet refusals _ _ c11.1).0 in
      record {
        long = b.0;
        asks = b.1;
        sizes = sized good;
        fits = omega (arith, lent-short a.request good, ltb-false (length a.request) n short);
      }
