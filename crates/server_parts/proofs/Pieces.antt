-- The pieces that the writers put into the buffer, one after the other: they are the messages of their fields.
use Prim.Native.Nat.{ℕ}
use mathlib.Core.Path.{◌≡◌, ap, ◌∙◌}
use mathlib.Core.List.{List, [], ◌∷◌, ◌++◌, append-nil, append_assoc}
use lib.ListN.{length, length-append}
use Rattle.laws.specs.Numbers.{le_bytes}
use Rattle.wire_message.specs.Encode.{words, starts, offsets, tags, values, encode}
use Rattle.wire_message.specs.Tags.{SIG, VER, DELE, RADI, PUBK, MIDP, VERS, MINT, ROOT, MAXT}
use Rattle.server_parts.specs.Delegation.{dele_bytes, cert_bytes}
use Rattle.server_parts.specs.Signed.{srep_bytes}

-- ---- SREP

-- the header's words, and the values of VER and RADI
abbrev pub srep-head : ℕ → List ℕ
srep-head radi = words (5 ∷ 4 ∷ 8 ∷ 16 ∷ 20 ∷ VER ∷ RADI ∷ MIDP ∷ VERS ∷ ROOT ∷ 1 ∷ radi ∷ [])

module _ (root : List ℕ) (midp radi : ℕ) where
  pub srep-is : srep_bytes root midp radi ≡ srep-head radi ++ (le_bytes 8 midp ++ (words (1 ∷ []) ++ root))
  unfolding srep_bytes encode offsets starts tags values words le_bytes
  srep-is = rw append-nil

  pub length-srep : length root ≡ 32 → length (srep_bytes root midp radi) ≡ 92
  unfolding words le_bytes
  length-srep r32 = ap length srep-is ∙ simp (length-append, r32)

-- ---- DELE and CERT

abbrev pub dele-head : List ℕ
dele-head = words (3 ∷ 32 ∷ 40 ∷ PUBK ∷ MINT ∷ MAXT ∷ [])

abbrev pub cert-head : List ℕ
cert-head = words (2 ∷ 64 ∷ SIG ∷ DELE ∷ [])

module _ (pubk : List ℕ) (mint maxt : ℕ) (k32 : length pubk ≡ 32) where
  pub dele-is : dele_bytes pubk mint maxt ≡ dele-head ++ (pubk ++ (le_bytes 8 mint ++ le_bytes 8 maxt))
  unfolding dele_bytes encode offsets starts tags values words le_bytes
  dele-is = rw k32

  -- the same from the left, as they are put
  pub dele-pieces : dele_bytes pubk mint maxt ≡ ((dele-head ++ pubk) ++ le_bytes 8 mint) ++ le_bytes 8 maxt
  dele-pieces = dele-is ∙ simp append_assoc

  pub length-dele : length (dele_bytes pubk mint maxt) ≡ 72
  unfolding words le_bytes
  length-dele = ap length dele-is ∙ simp (length-append, k32)

  module _ (signature : List ℕ) (s64 : length signature ≡ 64) where
    pub cert-is : cert_bytes pubk mint maxt signature ≡ cert-head ++ (signature ++ dele_bytes pubk mint maxt)
    unfolding cert_bytes encode offsets starts tags values words le_bytes
    cert-is = rw (s64, append-nil)

    pub length-cert : length (cert_bytes pubk mint maxt signature) ≡ 152
    unfolding words le_bytes
    length-cert = ap length cert-is ∙ simp (length-append, s64, length-dele)
