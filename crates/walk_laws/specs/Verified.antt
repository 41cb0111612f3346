-- That the signatures of a walk verify (requests P10 and P11; draft 19, 5.2.1 and 5.2.6), by our own Ed25519.
use Rattle.std.specs.Prelude.{ℕ, ◌≡◌, true, List, Err, Ok}
use Rattle.check_signatures.specs.SignatureAnswers.{delegated, responded}
use Rattle.walk.specs.State.{key_of}
use Rattle.walk.specs.Trace.{Reached}
use Rattle.walk.specs.Trace.Reached.{begun, took}
use Rattle.walk.specs.declared.Walk.{Walk}
use Rattle.walk.specs.declared.Said.TheVariants.{Next, Ended}

-- of a response packet: the SIG of CERT verifies under the server's long-term key, and the response's own SIG under the
-- PUBK that is delegated to
pub record Verifies (key response : List ℕ) : Type 0 where
  pub delegation : delegated key response ≡ true
  pub signature : responded response ≡ true

-- of a walk: those of every response that was accepted on the way verify, under the key of the server that was asked
unfoldable pub AllVerify : {keys nonce : List ℕ} {most : ℕ} {w : Walk} {buffer : List ℕ}
    → Reached keys nonce most w buffer → Type 0
AllVerify (begun buffer e) = Unit {0}
AllVerify (took w buffer h response (Ok (Next v)) way l t) = AllVerify way × Verifies (key_of w) response
AllVerify (took w buffer h response (Ok (Ended v r)) way l t) = AllVerify way × Verifies (key_of w) response
AllVerify (took w buffer h response (Err why) way l t) = AllVerify way
