-- What private functions ask of their callers. Nothing public is stated by it.
use Rattle.std.specs.Prelude.{ℕ, ◌≤◌, ◌≡◌, List, length}
use Rattle.wire_packet.specs.Facts.{Asks}
use Rattle.wire_packet.specs.Packet.{body}
use Rattle.pile.specs.Layout.{RECORD, AREA}
use Rattle.pile.specs.Pile.{request_length, response_length, request_packet}

-- the response packet of the record b and the NONC of r's request can be read
pub record Readable (b r : List ℕ) : Type 0 where
  pub before-long : length b ≡ RECORD
  pub long : length r ≡ RECORD
  pub response-fits : response_length b ≤ AREA
  pub request-fits : request_length r ≤ AREA
  pub headed : 12 ≤ length (request_packet r)
  pub asks : Asks (body (request_packet r))
