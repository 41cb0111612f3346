-- What is heard of a response where our own Ed25519 answers (requests P10 and P11; draft 19, 8.2).
use Rattle.std.specs.Prelude.{ℕ, List}
use Rattle.check_signatures.specs.SignatureAnswers.{delegated, responded}
use Rattle.walk.specs.State.{key_of}
use Rattle.walk.specs.declared.Heard.{Heard}
use Rattle.walk.specs.declared.Walk.{Walk}

-- whether the delegation verifies under the long-term key of the server that was asked, and the response under the key
-- of its delegation; beside them the caller's times and its rand
abbrev pub own_heard : Walk → ℕ → ℕ → List ℕ → List ℕ → Heard
own_heard w sent received rand response =
    record {
      delegation = delegated (key_of w) response;
      signature = responded response;
      sent = sent;
      received = received;
      rand = rand;
    }
