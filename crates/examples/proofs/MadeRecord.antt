-- A record made of a request packet and a response packet, as document 01 lays it out: what is read of it is these two,
-- and 16 does not apply. Its key and its rand are zeros.
use mathlib.Core.Path.{◌≡◌, refl, ap, ◌∙◌}
use mathlib.Core.Bool.{true, false, not}
use mathlib.Core.List.{List, ◌++◌}
use Prim.Native.Nat.{ℕ, zero, suc, ◌-◌, ◌≤◌}
use native.Mathlib.Omega.{arith}
use borrow.Author.Tests.{le-ltb}
use lib.ListN.{length, take, drop, replicate, length-append, length-replicate}
use lib.Seq.{take_at, take_all, take-append_seam, drop_at, drop-append_seam}
use Rattle.laws.specs.Numbers.{le, le_bytes}
use Rattle.laws.specs.Zeros.{zeros}
use Rattle.laws.proofs.Any.{any-not, any_none}
use Rattle.wire_packet.specs.Blank.{zeros32}
use Rattle.pile.specs.Pile.{rand_in, request_length, response_length, request_area, response_area, request_packet}
use Rattle.pile.specs.Pile.{response_packet}
use Rattle.pile.specs.Valid.{area_bad, record_bad}
use Rattle.examples.proofs.AreBytes.{AreBytes, bytes-append, bytes-zeros, bytes_le}

-- a packet, with zeros behind it
abbrev area : List ℕ → List ℕ
area packet = packet ++ replicate (2000 - length packet) 0

-- key and rand, the two lengths, zeros, and the two areas
unfoldable pub made_record : List ℕ → List ℕ → List ℕ
made_record q p =
    replicate 64 0
    ++ (le_bytes 4 (length q) ++ (le_bytes 4 (length p) ++ (replicate 24 0 ++ (area q ++ area p))))

-- zeros are all zero
zeros-pass : (n : ℕ) → zeros (replicate n 0) ≡ true
unfolding zeros
zeros-pass zero = refl
zeros-pass (suc n) = zeros-pass n

-- of a packet that is no longer than its area
module _ (packet : List ℕ) (short : length packet ≤ 2000) where
  length-area : length (area packet) ≡ 2000
  length-area = simp (length-append, length-replicate) (omega arith)

  area-good : area_bad (area packet) (length packet) ≡ false
  unfolding area_bad
  area-good =
      any-not _ (le-ltb 2000 (length packet) short)
      (any-not _ (rw drop-append_seam (ap not (zeros-pass (2000 - length packet)))) any_none)

-- it is bytes where its packets are
pub made_bytes : (q p : List ℕ) → AreBytes q → AreBytes p → AreBytes (made_record q p)
unfolding made_record
made_bytes q p a b =
    bytes-append (bytes-zeros 64)
    (bytes-append (bytes_le 4 (length q))
    (bytes-append (bytes_le 4 (length p))
    (bytes-append (bytes-zeros 24)
    (bytes-append (bytes-append a (bytes-zeros (2000 - length q)))
    (bytes-append b (bytes-zeros (2000 - length p)))))))

-- neither packet is longer than its area
pub record InAreas (q p : List ℕ) : Type 0 where
  pub request : length q ≤ 2000
  pub response : length p ≤ 2000

module _ {q p : List ℕ} (short : InAreas q p) where
  abbrev r : List ℕ
  r = made_record q p

  pub length-record : length r ≡ 4096
  unfolding made_record le_bytes
  length-record =
      omega
      (arith, length-append (area q) (area p), length-area q short.request, length-area p short.response)

  -- what is read of it
  pub rand-of : rand_in r ≡ zeros32
  unfolding made_record
  rand-of = refl

  pub request-length : request_length r ≡ length q
  unfolding made_record le le_bytes
  request-length = omega arith

  pub response-length : response_length r ≡ length p
  unfolding made_record le le_bytes
  response-length = omega arith

  request-area : request_area r ≡ area q
  unfolding made_record le_bytes
  request-area = take_at (area q) (area p) 2000 (length-area q short.request)

  response-area : response_area r ≡ area p
  unfolding made_record le_bytes
  response-area =
      ap (take 2000) (drop_at (area q) (area p) 2000 (length-area q short.request))
      ∙ take_all 2000 (area p) (omega (arith, length-area p short.response))

  pub request-of : request_packet r ≡ q
  unfolding request_packet
  request-of = rw (request-length, request-area) (take-append_seam q _)

  pub response-of : response_packet r ≡ p
  unfolding response_packet
  response-of = rw (response-length, response-area) (take-append_seam p _)

  -- 16 does not apply
  gap : zeros (take 24 (drop 72 r)) ≡ true
  unfolding made_record le_bytes zeros
  gap = refl

  pub record-good : record_bad r ≡ false
  unfolding record_bad
  record-good =
      rw (request-length, response-length, request-area, response-area)
      (any-not _ (area-good q short.request)
      (any-not _ (area-good p short.response) (any-not _ (ap not gap) any_none)))
