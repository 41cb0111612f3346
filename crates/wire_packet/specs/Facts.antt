-- What the messages of a good request and of a response of the right shape say: what helpers ask of their callers.
use Rattle.std.specs.Prelude.{ℕ, ◌≡◌, true, List, length}
use Rattle.wire_message.specs.Sentences.{Good}
use Rattle.wire_message.specs.Tags.{SIG, VER, SRV, NONC, TYPE, RADI, PUBK, MIDP, MINT, ROOT, MAXT, INDX}
use Rattle.wire_message.specs.Values.{has, value_of}
use Rattle.wire_packet.specs.Response.{srep, cert, dele}

-- what the message of a good request says
pub record Asks (m : List ℕ) : Type 0 where
  pub frame : Good m
  pub nonc-long : length (value_of m NONC) ≡ 32
  pub srv-long : has m SRV ≡ true → length (value_of m SRV) ≡ 32

-- what a response of the right shape says
pub record Shaped (m : List ℕ) : Type 0 where
  pub root-frame : Good m
  pub sig-long : length (value_of m SIG) ≡ 64
  pub nonc-long : length (value_of m NONC) ≡ 32
  pub type-long : length (value_of m TYPE) ≡ 4
  pub indx-long : length (value_of m INDX) ≡ 4
  pub srep-frame : Good (srep m)
  pub ver-long : length (value_of (srep m) VER) ≡ 4
  pub radi-long : length (value_of (srep m) RADI) ≡ 4
  pub midp-long : length (value_of (srep m) MIDP) ≡ 8
  pub rootv-long : length (value_of (srep m) ROOT) ≡ 32
  pub cert-frame : Good (cert m)
  pub cert-sig-long : length (value_of (cert m) SIG) ≡ 64
  pub dele-frame : Good (dele m)
  pub pubk-long : length (value_of (dele m) PUBK) ≡ 32
  pub mint-long : length (value_of (dele m) MINT) ≡ 8
  pub maxt-long : length (value_of (dele m) MAXT) ≡ 8
