-- A response that is written with what a server signed: both signatures verify, by our own Ed25519, and so it passes
-- the check that lends no answers.
use Rattle.check_response.specs.declared.Window.{Window}
use Rattle.refusal.specs.declared.Refusal.{Refusal}
use Rattle.std.specs.Prelude.{Result}
use Prim.Native.Nat.{ℕ, ◌+◌, ◌^◌, ◌<◌}
use mathlib.Core.Path.{◌≡◌, ap₂, ◌∙◌}
use mathlib.Core.Bool.{true}
use mathlib.Core.List.{List, ◌++◌}
use native.Mathlib.Omega.{arith}
use lib.ListN.{length}
use Rattle.check_response.specs.Check.{check_code, window_in, verdict_of}
use Rattle.check_response.proofs.Lent.{by-valid}
use Rattle.check_signatures.specs.SignatureAnswers.{delegated, responded}
use Rattle.check_signatures.proofs.Verdicts.{checked-texts, delegated-as, responded-as}
use Rattle.ed25519.specs.Verification.{verifies}
use Rattle.ed25519_sign.specs.Signing.{public_of, signature_parts}
use Rattle.ed25519_sign_laws.proofs.Keys.{public-key}
use Rattle.ed25519_sign_laws.proofs.Parts.{parts-long, signed_parts}
use Rattle.ed25519_sign_laws.proofs.Verifying.{signed-verifies}
use Rattle.server_laws.specs.Answerable.{Typed, Delegates}
use Rattle.server_laws.proofs.Delegated.{cert-delegates}
use Rattle.server_laws.proofs.Granting.{Granted}
use Rattle.server_laws.proofs.Passing.{cert-is, dele-is, signature-is, reply-passes, reply-key, reply-texts}
use Rattle.server_parts.specs.Signed.{srep_bytes}
use Rattle.server_parts.proofs.Pieces.{length-srep, length-dele}
use Rattle.server_response.specs.Response.{Reply, response_bytes}
use Rattle.wire_packet.specs.Packet.{body}
use Rattle.wire_packet.specs.Response.{signed_code}
use Rattle.wire_request.specs.Texts.{delegation_context, response_context}
use Rattle.server_signed_laws.specs.Signer.{Signer, dele_for, delegation_for, cert_for, SignedBy, InTime, PassesFor}

-- what is signed in two parts verifies as one text, where it is short
short-verifies : (seed context value : List ℕ) → length context + length value < 2 ^ 32
    → verifies (public_of seed) (context ++ value) (signature_parts seed context value) ≡ true
short-verifies seed context value short =
    rw (signed_parts seed context value (omega arith)).whole (signed-verifies seed (context ++ value))

-- CERT delegates
delegates : (s : Signer) (midp radi : ℕ) → InTime s midp radi
    → Delegates (cert_for s) (public_of s.delegate) s.mint s.maxt (delegation_for s) (dele_for s)
delegates s midp radi time =
    cert-delegates (public_of s.delegate) s.mint s.maxt (delegation_for s) (public-key s.delegate).long
    (parts-long _ delegation_context (dele_for s)) (omega (arith, time.from, time.to, time.width))
    time.width

module _ (s : Signer) (a : Reply) (by : SignedBy s a) (time : InTime s a.midp a.radi) (t : Typed a) where
  pub cert-of : Delegates a.cert (public_of s.delegate) s.mint s.maxt (delegation_for s) (dele_for s)
  cert-of = rw by.cert (delegates s a.midp a.radi time)

  module _ (g : Granted a) where
    abbrev p : List ℕ
    p = response_bytes a

    -- there are texts to be verified
    texts : (signed_code p).code ≡ 0
    unfolding verdict_of
    texts =
        checked-texts a.request p
        (by-valid (check_code a.request p true true) (window_in (body p)) _ (reply-passes a t g)).0

    pub delegation-yes : delegated (public_of s.long-term) p ≡ true
    delegation-yes =
        let few = length-dele (public_of s.delegate) s.mint s.maxt (public-key s.delegate).long in
        delegated-as (public_of s.long-term) p texts
        ∙ rw ((reply-texts a t g).1, cert-is a t g, cert-of.over, cert-of.signed)
        (short-verifies s.long-term delegation_context (dele_for s) (omega arith))

    pub response-yes : responded p ≡ true
    response-yes =
        let few = length-srep a.root a.midp a.radi t.root in
        responded-as (public_of s.delegate) p texts
        ∙ rw (dele-is a t g, cert-of.key, (reply-texts a t g).0, signature-is a t g, by.signature)
        (short-verifies s.delegate response_context (srep_bytes a.root a.midp a.radi) (omega arith))

    pub response-passes : PassesFor s a.request p a.midp a.radi
    response-passes =
        rw (delegation-yes, response-yes)
        (ap₂ (λ (v : Result Window Refusal) (key : List ℕ). record { verdict = v; pubk = key })
        (rw (cert-of.from, cert-of.to) at (reply-passes a t g)) (reply-key a t g ∙ cert-of.key))
