-- What the value of a good CERT says: what helpers ask of their callers.
use Rattle.std.specs.Prelude.{List, ◌≡◌, ℕ, length}
use Rattle.wire_message.specs.Sentences.{Good}
use Rattle.wire_message.specs.Tags.{PUBK, MINT, MAXT}
use Rattle.wire_message.specs.Values.{value_of}
use Rattle.server_response.specs.Refusing.{dele_of}

pub record Certifies (cert : List ℕ) : Type 0 where
  pub frame : Good cert
  pub dele-frame : Good (dele_of cert)
  pub pubk-long : length (value_of (dele_of cert) PUBK) ≡ 32
  pub mint-long : length (value_of (dele_of cert) MINT) ≡ 8
  pub maxt-long : length (value_of (dele_of cert) MAXT) ≡ 8
