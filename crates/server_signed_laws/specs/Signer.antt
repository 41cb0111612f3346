-- A server that signs with two seeds by our own Ed25519 (requests P1 and P11; draft 19, 5.2.1 and 5.2.6): what it has,
-- what it writes, and what is claimed of it.
use Rattle.std.specs.Prelude.{ℕ, ◌^◌, ◌≤◌, ◌<◌, ◌≡◌, List, [], Ok}
use Rattle.check_response.specs.Check.{checked_of}
use Rattle.check_response.specs.Window.{window_of}
use Rattle.check_response.specs.declared.Checked.{Checked}
use Rattle.check_signatures.specs.SignatureAnswers.{delegated, responded}
use Rattle.ed25519_sign.specs.Signing.{public_of, signature_parts}
use Rattle.hash.specs.Hashes.{leaf_of}
use Rattle.server_parts.specs.Delegation.{dele_bytes, cert_bytes}
use Rattle.server_parts.specs.Signed.{srep_bytes}
use Rattle.server_response.specs.Response.{Reply, reply}
use Rattle.wire_request.specs.Texts.{delegation_context, response_context}

-- the seed of the long-term key, that of the key that it delegates to, and the first and the last second at which the
-- latter may sign
pub record Signer : Type 0 where
  pub long-term : List ℕ
  pub delegate : List ℕ
  pub mint : ℕ
  pub maxt : ℕ

-- DELE, for the public key of the second seed; its signature, with the first; and CERT, which holds both
abbrev pub dele_for : Signer → List ℕ
dele_for s = dele_bytes (public_of s.delegate) s.mint s.maxt

abbrev pub delegation_for : Signer → List ℕ
delegation_for s = signature_parts s.long-term delegation_context (dele_for s)

abbrev pub cert_for : Signer → List ℕ
cert_for s = cert_bytes (public_of s.delegate) s.mint s.maxt (delegation_for s)

-- the signature over SREP, with the second seed
abbrev pub signature_for : Signer → List ℕ → ℕ → ℕ → List ℕ
signature_for s root midp radi = signature_parts s.delegate response_context (srep_bytes root midp radi)

-- the call of `write_response` has these
pub record SignedBy (s : Signer) (a : Reply) : Type 0 where
  pub cert : a.cert ≡ cert_for s
  pub signature : a.signature ≡ signature_for s a.root a.midp a.radi

-- that to a single request, whose leaf is the root: INDX 0 and no path
abbrev pub alone_reply : Signer → List ℕ → ℕ → ℕ → Reply
alone_reply s request midp radi =
    reply request 0 (leaf_of request) [] midp radi (cert_for s) (signature_for s (leaf_of request) midp radi)

-- a time within MINT and MAXT, and a radius, in numbers of their width
pub record InTime (s : Signer) (midp radi : ℕ) : Type 0 where
  pub from : s.mint ≤ midp
  pub to : midp ≤ s.maxt
  pub width : s.maxt < 2 ^ 64
  pub some : 0 < radi
  pub narrow : radi < 2 ^ 32

-- what `check_signed` answers to the response packet p to the request packet q, under the key
abbrev pub check_signed : List ℕ → List ℕ → List ℕ → Checked
check_signed key q p = checked_of q p (delegated key p) (responded p)

-- under the public key of the first seed it is valid, with the window of this time and of these MINT and MAXT, and the
-- public key of the second stands beside it
abbrev pub PassesFor : Signer → List ℕ → List ℕ → ℕ → ℕ → Type 0
PassesFor s q p midp radi =
    check_signed (public_of s.long-term) q p
    ≡ record { verdict = Ok (window_of midp radi s.mint s.maxt); pubk = public_of s.delegate }
