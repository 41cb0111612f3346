-- Document 01's sentences on piles, one field a fact, and what we ask of a link besides.
-- They are proved to hold exactly where the tests of Pile, Valid and Links refuse nothing.
use Rattle.std.specs.Prelude.{ℕ, ◌+◌, ◌*◌, ◌-◌, ◌%◌, ◌≤◌, ◌<◌, ◌≡◌, List, length, get_or}
use Rattle.hash.specs.Hashes.{link_of}
use Rattle.wire_message.specs.Tags.{NONC}
use Rattle.wire_message.specs.Values.{value_of}
use Rattle.check_response.specs.Passes.{Passes}
use Rattle.wire_packet.specs.Good.{GoodRequest}
use Rattle.wire_packet.specs.Packet.{body}
use Rattle.pile.specs.Layout.{RAND, REQUEST-LENGTH, ZEROS, REQUEST, RESPONSE, RECORD, AREA}
use Rattle.pile.specs.Pile.{records_in, record_at, rand_in, request_length, response_length, request_packet}
use Rattle.pile.specs.Pile.{response_packet, said_yes}

-- a pile is 1 to 16 records of 4,096 bytes
pub record WholePile (pile : List ℕ) : Type 0 where
  pub exact : length pile % RECORD ≡ 0
  pub from : 1 ≤ records_in pile
  pub to : records_in pile ≤ 16

-- beside it come two answer bytes a record: 1 yes, 0 no
pub record GoodPile (pile answers : List ℕ) : Type 0 where
  pub pile-whole : WholePile pile
  pub two : length answers ≡ 2 * records_in pile
  pub one_at_most : (i : ℕ) → i < length answers → get_or answers i 0 ≤ 1

-- lengths are at most 2,000; zeros 72-95; bytes of an area past its length are zero
pub record Undamaged (r : List ℕ) : Type 0 where
  pub request-fits : request_length r ≤ AREA
  pub response-fits : response_length r ≤ AREA
  pub gap : (i : ℕ) → ZEROS ≤ i → i < REQUEST → get_or r i 0 ≡ 0
  pub request-rest : (i : ℕ) → REQUEST + request_length r ≤ i → i < RESPONSE → get_or r i 0 ≡ 0
  pub response-rest : (i : ℕ) → RESPONSE + response_length r ≤ i → i < RECORD → get_or r i 0 ≡ 0

-- record k of a good pile is valid: none of 16, 14 and 1 to 13 applies to it
pub record ValidRecord (pile answers : List ℕ) (k : ℕ) : Type 0 where
  pub pile-good : GoodPile pile answers
  pub there : k < records_in pile
  pub undamaged : Undamaged (record_at pile k)
  pub passes :
      Passes (request_packet (record_at pile k)) (response_packet (record_at pile k))
      (said_yes answers (2 * k)) (said_yes answers (2 * k + 1))

-- document 01's sentence on a link: the NONC of r's request is H(whole response packet of b, rand of r)
abbrev pub IsLinked : List ℕ → List ℕ → Type 0
IsLinked b r = value_of (body (request_packet r)) NONC ≡ link_of (response_packet b) (rand_in r)

-- what we ask besides, which is no house rule of document 01: both lengths are at most 2,000, and r's request is a good
-- one, since no NONC is taken from a bad request
pub record LinkReadable (b r : List ℕ) : Type 0 where
  pub request-fits : request_length r ≤ AREA
  pub response-fits : response_length b ≤ AREA
  pub request : GoodRequest (request_packet r)

-- the record r is linked to the record b
pub record LinkHolds (b r : List ℕ) : Type 0 where
  pub readable : LinkReadable b r
  pub nonce : IsLinked b r

-- record k is linked to the one before it
pub record LinkedAt (pile : List ℕ) (k : ℕ) : Type 0 where
  pub pile-whole : WholePile pile
  pub after : 1 ≤ k
  pub there : k < records_in pile
  pub holds : LinkHolds (record_at pile (k - 1)) (record_at pile k)

-- the first rand, bytes 32 to 63 of record 0, is all zero
pub record ZeroRand (pile : List ℕ) : Type 0 where
  pub pile-whole : WholePile pile
  pub rand : (i : ℕ) → RAND ≤ i → i < REQUEST-LENGTH → get_or (record_at pile 0) i 0 ≡ 0
