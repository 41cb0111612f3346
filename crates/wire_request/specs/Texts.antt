-- The two texts that are signed (document 01, "When a response is valid"; draft 19, 5.2.1 and 5.2.6).
use Rattle.std.specs.Prelude.{List, [], ◌∷◌, ◌++◌, ℕ}
use Rattle.laws.specs.Ascii.{ascii}
use Rattle.wire_packet.specs.Packet.{body}
use Rattle.wire_packet.specs.Response.{srep, dele}

-- the context strings, each with its zero byte
abbrev pub delegation_context : List ℕ
delegation_context = ascii "RoughTime v1 delegation signature" ++ (0 ∷ [])

abbrev pub response_context : List ℕ
response_context = ascii "RoughTime v1 response signature" ++ (0 ∷ [])

-- the texts of a response packet: a context, and the value that is signed
abbrev pub delegation_text : List ℕ → List ℕ
delegation_text p = delegation_context ++ dele (body p)

abbrev pub response_text : List ℕ → List ℕ
response_text p = response_context ++ srep (body p)
