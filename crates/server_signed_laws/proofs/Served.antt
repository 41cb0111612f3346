-- When a response is written with what a server signed, and that it passes then; and the response to a single request,
-- whose leaf is the root.
use Prim.Native.Nat.{ℕ, ◌+◌, ◌^◌, ◌≤◌, ◌<◌}
use mathlib.Core.Path.{◌≡◌, refl, ap, ◌∙◌}
use mathlib.Core.Bool.{true, false, not}
use mathlib.Core.List.{List, []}
use native.Mathlib.Omega.{arith}
use borrow.Author.Tests.{eq-eqb}
use lib.ListN.{length}
use Rattle.hash.specs.Hashes.{leaf_of}
use Rattle.hash.proofs.Lengths.{length-leaf}
use Rattle.laws.specs.Upto.{upto}
use Rattle.laws.proofs.Same.{same_refl}
use Rattle.ed25519_sign.specs.Signing.{public_of}
use Rattle.ed25519_sign_laws.proofs.Keys.{public-key}
use Rattle.ed25519_sign_laws.proofs.Parts.{parts-long}
use Rattle.server_laws.specs.Answerable.{Typed}
use Rattle.server_laws.proofs.Exactly.{good-cert}
use Rattle.server_laws.proofs.Granting.{Granted, granted-exactly}
use Rattle.server_parts.specs.Signed.{srep_bytes}
use Rattle.server_parts.proofs.Pieces.{length-cert}
use Rattle.server_response.specs.Refusing.{reply_code}
use Rattle.server_response.specs.Response.{Reply, response_bytes}
use Rattle.server_response.proofs.Pieces.{length-response}
use Rattle.server_response.proofs.Replied.{sized}
use Rattle.tree.specs.PathCheck.{climb, reached, leads_of}
use Rattle.tree.specs.Tree.{nodes_in}
use Rattle.wire_packet.specs.Request.{request_bad, request_code}
use Rattle.wire_request.specs.Texts.{delegation_context, response_context}
use Rattle.server_signed_laws.specs.Signer.{Signer, dele_for, delegation_for, SignedBy, alone_reply, InTime}
use Rattle.server_signed_laws.specs.Signer.{PassesFor}
use Rattle.server_signed_laws.proofs.Answers.{cert-of, response-passes}

module _ (s : Signer) (a : Reply) (by : SignedBy s a) (time : InTime s a.midp a.radi) (few : a.indx < 2 ^ 32)
    (root : length a.root ≡ 32) (good : (request_code a.request).code ≡ 0)
    (leads : leads_of (leaf_of a.request) a.indx a.path a.root ≡ true)
    (room : 416 + length a.path ≤ length a.request) where
  typed : Typed a
  typed =
      record {
        indx = few;
        root = root;
        midp = omega (arith, time.to, time.width);
        radi = time.narrow;
        signature =
            ap length by.signature
            ∙ parts-long s.delegate response_context (srep_bytes a.root a.midp a.radi);
      }

  request-good : request_bad a.request ≡ false
  unfolding request_bad
  request-good = ap not (eq-eqb (request_code a.request).code 0 good)

  -- CERT has 152 bytes, and the response 264 more beside the path
  cert-long : length a.cert ≡ 152
  cert-long =
      ap length by.cert
      ∙ length-cert (public_of s.delegate) s.mint s.maxt (public-key s.delegate).long (delegation_for s)
      (parts-long _ delegation_context (dele_for s))

  pub granted : Granted a
  granted =
      let c = cert-of s a by time typed in
      let codeless = good-cert a.cert c.good in
      let long = length-response a (sized a root typed.signature request-good) in
      record {
        request = request-good;
        radius = time.some;
        certified = codeless.0;
        delegated = codeless.1;
        leads = leads;
        from = omega (arith, c.from, time.from);
        to = omega (arith, c.to, time.to);
        short = omega (arith, long, cert-long);
      }

  -- nothing is refused, and what is written passes
  pub served : ((reply_code a).code ≡ 0) × PassesFor s a.request (response_bytes a) a.midp a.radi
  served = ((granted-exactly a).1 granted, response-passes s a by time typed granted)

-- the leaf of a request leads to itself
itself-leads : (leaf : List ℕ) → leads_of leaf 0 [] leaf ≡ true
unfolding leads_of reached climb nodes_in upto
itself-leads leaf = same_refl leaf

-- The response to a single request: two seeds, a time and a radius, and a good request of 416 bytes or more.
pub alone-served : (s : Signer) (request : List ℕ) (midp radi : ℕ) → InTime s midp radi
    → (request_code request).code ≡ 0 → 416 ≤ length request
    → ((reply_code (alone_reply s request midp radi)).code ≡ 0)
    × PassesFor s request (response_bytes (alone_reply s request midp radi)) midp radi
alone-served s request midp radi time good room =
    served s (alone_reply s request midp radi) (record { cert = refl; signature = refl }) time (omega arith)
    (length-leaf request) good (itself-leads (leaf_of request)) room
