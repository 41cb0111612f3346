-- Document 01's sentence on a valid response with "verifies under the key" for a yes (request P11). It is proved to
-- hold exactly where the check refuses nothing.
use Rattle.std.specs.Prelude.{◌≡◌, true, List, ℕ}
use Rattle.ed25519.specs.Verification.{verifies}
use Rattle.wire_message.specs.Tags.{SIG, PUBK}
use Rattle.wire_message.specs.Values.{value_of}
use Rattle.check_response.specs.Passes.{Passes}
use Rattle.wire_packet.specs.Packet.{body}
use Rattle.wire_packet.specs.Response.{cert, dele}
use Rattle.wire_request.specs.Texts.{delegation_text, response_text}

-- the response packet p to the request packet q is valid, under the server's long-term key
pub record PassesSigned (key q p : List ℕ) : Type 0 where
  -- all that document 01 asks beside the signatures
  pub rest : Passes q p true true
  -- CERT's signature verifies under the long-term key
  pub delegation : verifies key (delegation_text p) (value_of (cert (body p)) SIG) ≡ true
  -- the response's verifies under PUBK
  pub signature : verifies (value_of (dele (body p)) PUBK) (response_text p) (value_of (body p) SIG) ≡ true
