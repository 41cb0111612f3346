-- CERT and DELE as a server's operator writes them (request P1; draft 19, 5.2.6): DELE is what the long-term key signs.
use Rattle.std.specs.Prelude.{List, [], ◌∷◌, ℕ}
use Rattle.laws.specs.Numbers.{le_bytes}
use Rattle.wire_message.specs.Encode.{Field, ◌≔◌, encode}
use Rattle.wire_message.specs.Tags.{SIG, DELE, PUBK, MINT, MAXT}

-- the delegated key, and the first and the last second at which it may sign
abbrev pub dele_fields : List ℕ → ℕ → ℕ → List Field
dele_fields pubk mint maxt =
    PUBK ≔ pubk
    ∷ MINT ≔ le_bytes 8 mint
    ∷ MAXT ≔ le_bytes 8 maxt
    ∷ []

-- the whole message, of 72 bytes
unfoldable pub dele_bytes : List ℕ → ℕ → ℕ → List ℕ
dele_bytes pubk mint maxt = encode (dele_fields pubk mint maxt)

-- the signature over DELE, and DELE
abbrev pub cert_fields : List ℕ → ℕ → ℕ → List ℕ → List Field
cert_fields pubk mint maxt signature = SIG ≔ signature ∷ DELE ≔ dele_bytes pubk mint maxt ∷ []

-- the whole message, of 152 bytes
unfoldable pub cert_bytes : List ℕ → ℕ → ℕ → List ℕ → List ℕ
cert_bytes pubk mint maxt signature = encode (cert_fields pubk mint maxt signature)
