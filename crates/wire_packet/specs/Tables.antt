-- The tags that each of the five messages holds, and the rules of their values (document 01, "Bytes of a message";
-- draft 19, 5.1 and 5.2; request P4). The rows stand in the order of the tags.
use Rattle.std.specs.Prelude.{List, [], ◌∷◌}
use Rattle.wire_message.specs.Rules.{must, may, bytes, nonzero, versions, siblings, message}
use Rattle.wire_message.specs.declared.rules.TagRule.{TagRule}
use Rattle.wire_message.specs.Tags.{SIG, VER, SRV, NONC, DELE, TYPE, PATH, RADI, PUBK, MIDP, SREP, VERS, MINT, ROOT, CERT}
use Rattle.wire_message.specs.Tags.{MAXT, INDX}

-- a request
abbrev pub request_table : List TagRule
request_table =
    must VER versions
    ∷ may SRV (bytes 32)
    ∷ must NONC (bytes 32)
    ∷ must TYPE (bytes 4)
    ∷ []

-- a response's root message
abbrev pub root_table : List TagRule
root_table =
    must SIG (bytes 64)
    ∷ must NONC (bytes 32)
    ∷ must TYPE (bytes 4)
    ∷ must PATH siblings
    ∷ must SREP message
    ∷ must CERT message
    ∷ must INDX (bytes 4)
    ∷ []

-- its SREP
abbrev pub srep_table : List TagRule
srep_table =
    must VER (bytes 4)
    ∷ must RADI nonzero
    ∷ must MIDP (bytes 8)
    ∷ must VERS versions
    ∷ must ROOT (bytes 32)
    ∷ []

-- its CERT
abbrev pub cert_table : List TagRule
cert_table =
    must SIG (bytes 64)
    ∷ must DELE message
    ∷ []

-- the DELE within CERT
abbrev pub dele_table : List TagRule
dele_table =
    must PUBK (bytes 32)
    ∷ must MINT (bytes 8)
    ∷ must MAXT (bytes 8)
    ∷ []
