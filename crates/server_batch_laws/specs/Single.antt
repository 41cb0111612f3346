-- A batch of one packet, answered by a server with two seeds: that there are calls of which the theorems speak.
use Rattle.std.specs.Prelude.{List, [], ◌∷◌, ℕ, length}
use Rattle.server_batch.specs.Batch.{batch}
use Rattle.server_signed_laws.specs.Signer.{Signer, cert_for}
use Rattle.server_batch_laws.specs.Call.{Call}

-- the request fills its slot; there is room for one node, and for an answer as long as the request
abbrev pub single : Signer → List ℕ → List ℕ → ℕ → ℕ → Call
single s srv request midp radi =
    record {
      batch = batch request (length request) (length request ∷ []) srv;
      cert = cert_for s;
      seed = s.delegate;
      midp = midp;
      radi = radi;
      rows = 32;
      out = length request;
      room = length request;
      lengths = 1;
    }
