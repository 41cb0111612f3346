-- What is known of a response that the taker accepts: both of its signatures verify, and it is valid in document 01's
-- words under the key of the server that was asked.
use Prim.Native.Nat.{ℕ}
use mathlib.Core.Path.{◌≡◌, refl, sym, ap₂}
use mathlib.Core.Bool.{true}
use mathlib.Core.List.{List}
use Rattle.laws.specs.Bytes.{Bytes}
use Rattle.check_signatures.specs.SignatureAnswers.{delegated, responded}
use Rattle.check_signatures.specs.Meaning.{PassesSigned}
use Rattle.check_signatures.proofs.Passing.{passes-alone}
use Rattle.check_response.proofs.Exactly.{code-exactly}
use Rattle.walk.specs.State.{key_of, request_now}
use Rattle.walk.specs.Taking.{take_code}
use Rattle.walk.specs.declared.Walk.{Walk}
use Rattle.walk.proofs.Accepting.{accepted}
use Rattle.walk.proofs.Checked.{both_yes}
use Rattle.walk_signed.specs.Heard.{own_heard}
use Rattle.walk_signed.proofs.Last.{heard_with}

module _ (w : Walk) (sent received : ℕ) (rand x : List ℕ) (room : ℕ)
    (z : (take_code w (own_heard w sent received rand x) x room).code ≡ 0) where
  -- both answers were yes,
  pub accepted-verified : (delegated (key_of w) x ≡ true) × (responded x ≡ true)
  accepted-verified =
      both_yes (request_now w) x (delegated (key_of w) x) (responded x)
      (accepted w (own_heard w sent received rand x) x room refl z).checked

  -- so that what was heard is what two answers of yes are,
  pub heard-both : heard_with sent received rand true true ≡ own_heard w sent received rand x
  heard-both = ap₂ (heard_with sent received rand) (sym accepted-verified.0) (sym accepted-verified.1)

  -- and where the packets are bytes, the response to the request that was asked is valid
  pub accepted-passes : Bytes (request_now w) → Bytes x → PassesSigned (key_of w) (request_now w) x
  accepted-passes q-bytes x-bytes =
      let c = (accepted w (own_heard w sent received rand x) x room refl z).checked in
      (passes-alone (key_of w) (request_now w) x).0 ((code-exactly _ _ _ _ q-bytes x-bytes).0 c)
