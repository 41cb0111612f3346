-- The pieces that `write_request` puts into the buffer, one after the other: they are the packet of its fields.
use Prim.Native.Nat.{ℕ}
use mathlib.Core.Path.{◌≡◌, sym, ap, ◌∙◌}
use mathlib.Core.List.{List, [], ◌∷◌, ◌++◌, append_assoc}
use lib.ListN.{length, replicate, length-append, length-replicate}
use Rattle.hash.specs.Hashes.{srv_of}
use Rattle.hash.proofs.Lengths.{length-srv}
use Rattle.laws.specs.Numbers.{le_bytes}
use Rattle.wire_message.specs.Encode.{words, starts, offsets, tags, values, encode}
use Rattle.wire_message.specs.Tags.{VER, SRV, NONC, TYPE, ZZZZ}
use Rattle.wire_packet.specs.Packet.{mark, packet_of}
use Rattle.wire_request.specs.Request.{request_fields, request_bytes}

-- the header's words
abbrev heading : List ℕ
heading = 5 ∷ 4 ∷ 36 ∷ 68 ∷ 72 ∷ VER ∷ SRV ∷ NONC ∷ TYPE ∷ ZZZZ ∷ []

-- what stands between the mark and the SRV value: the length, the header, and the value of VER
abbrev pub head : List ℕ
head = le_bytes 4 1024 ++ words heading ++ le_bytes 4 1

module _ (key nonce : List ℕ) (n32 : length nonce ≡ 32) where
  -- the offsets are what document 01 says
  message-is : encode (request_fields key nonce) ≡ words heading ++ values (request_fields key nonce)
  unfolding encode offsets starts tags words le_bytes
  message-is = rw (length-srv key, n32)

  pub length-message : length (encode (request_fields key nonce)) ≡ 1024
  unfolding words le_bytes values
  length-message = ap length message-is ∙ simp (length-append, length-srv key, n32)

  -- the pieces, one after the other
  pub request-is : request_bytes key nonce ≡ mark ++ head ++ srv_of key ++ nonce ++ replicate 916 0
  unfolding request_bytes packet_of words le_bytes values
  request-is =
      rw (length-message, message-is)
      (ap (λ (l : List ℕ). mark ++ (head ++ l)) (sym (append_assoc (srv_of key) nonce (replicate 916 0))))

  pub length-request : length (request_bytes key nonce) ≡ 1036
  unfolding words le_bytes
  length-request = ap length request-is ∙ simp (length-append, length-srv key, n32, length-replicate)
