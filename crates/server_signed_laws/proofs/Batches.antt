-- A batch of a server that signs with its own two seeds, end to end: no request is refused, and each response that is
-- written for its own place passes for its own request, under the public key of the first seed, with no answers lent.
use Prim.Native.Nat.{ℕ, ◌+◌, ◌*◌, ◌≤◌}
use mathlib.Core.Path.{◌≡◌, ap, ◌∙◌}
use mathlib.Core.List.{List}
use native.Mathlib.Nat.{min-le_left}
use native.Mathlib.Omega.{arith}
use lib.ListN.{length, length-take}
use Rattle.ed25519_sign.specs.Signing.{public_of, signature_parts}
use Rattle.refusal.specs.declared.Refusal.{Refusal}
use Rattle.server_laws.specs.Round.{Round, Turn, Laid, Placed, turn_reply}
use Rattle.server_laws.proofs.Batches.{there, path-leads, typed}
use Rattle.server_parts.specs.Delegation.{cert_bytes}
use Rattle.server_response.specs.Refusing.{reply_code}
use Rattle.server_response.specs.Response.{Reply, response_bytes}
use Rattle.wire_request.specs.Texts.{delegation_context, response_context}
use Rattle.wire_request.proofs.Answered.{done-front}
use Rattle.server_signed_laws.specs.Signer.{Signer, SignedBy, InTime, PassesFor}
use Rattle.server_signed_laws.specs.SignedRound.{Front, SignedRound}
use Rattle.server_signed_laws.proofs.Served.{served}

-- what a writer left is what it was to write
front-is : {why : Refusal} {p front : List ℕ} → Front why p front → front ≡ p
front-is {why} {p} f = f.is ∙ done-front why p f.out f.n (f.answers, f.leaves) f.done

module _ (s : Signer) (r : Round) (signed : SignedRound s r) (laid : Laid r) (time : InTime s r.midp r.radi)
    (t : Turn) (placed : Placed r t) (room : 416 + 32 * t.siblings ≤ length (r.requests t.place)) where
  abbrev a : Reply
  a = turn_reply r t

  by : SignedBy s a
  by =
      record {
        cert =
            front-is signed.cert-is
            ∙ ap (λ (dele : List ℕ). cert_bytes (public_of s.delegate) s.mint s.maxt
            (signature_parts s.long-term delegation_context dele))
            (front-is signed.dele-is);
        signature =
            signed.signature-is ∙ ap (signature_parts s.delegate response_context) (front-is signed.srep-is);
      }

  path-short : length a.path ≤ 32 * t.siblings
  path-short = simp length-take (min-le_left (32 * t.siblings) (length t.path))

  whole : ((reply_code a).code ≡ 0) × PassesFor s a.request (response_bytes a) a.midp a.radi
  whole =
      let y = typed r laid t placed in
      let good = laid.good t.place (there r laid t placed) in
      served s a by time y.indx y.root good (path-leads r laid t placed) (omega (arith, path-short))

  -- the call of `write_response` for a place refuses nothing,
  pub batch-granted : (reply_code a).code ≡ 0
  batch-granted = whole.0

  -- and what it leaves passes
  pub batch-passes : (p : List ℕ) → Front (reply_code a) (response_bytes a) p
      → PassesFor s (r.requests t.place) p r.midp r.radi
  batch-passes p f = rw (front-is f) whole.1
