-- Links (document 01, "Piles and reports"): record k is linked if its request's NONC is H(whole response packet of k-1,
-- rand of k).
-- We ask more than this sentence, by our own decision and by no house rule of document 01: the request is a good one,
-- and both lengths are at most 2,000. For no NONC is taken from a bad request, and no packet is longer than its area.
-- Valid records have all of that, so that in reports and runs nothing more is asked (`valid-link-exactly`).
use Rattle.std.specs.Prelude.{ℕ, ◌-◌, Bool, false, cond, List, [], ◌∷◌, eqb, leb, ltb}
use Rattle.hash.specs.Hashes.{link_of}
use Rattle.laws.specs.Any.{any}
use Rattle.laws.specs.Same.{same}
use Rattle.laws.specs.Zeros.{zeros}
use Rattle.wire_message.specs.Tags.{NONC}
use Rattle.wire_message.specs.Values.{value_of}
use Rattle.wire_packet.specs.Packet.{body}
use Rattle.wire_packet.specs.Request.{request_bad}
use Rattle.pile.specs.Layout.{AREA}
use Rattle.pile.specs.Pile.{records_in, record_at, rand_in, request_length, response_length, request_packet}
use Rattle.pile.specs.Pile.{response_packet, length_bad}

-- document 01's sentence, of the record r and the record b before it; the response packet is hashed with its header
unfoldable pub nonce_links : List ℕ → List ℕ → Bool
nonce_links b r = same (value_of (body (request_packet r)) NONC) (link_of (response_packet b) (rand_in r))

-- ours: the link can't be read, since one of the two lengths is above 2,000 or r's request is bad
unfoldable pub unreadable : List ℕ → List ℕ → Bool
unreadable b r = any (ltb AREA (request_length r) ∷ ltb AREA (response_length b) ∷ request_bad (request_packet r) ∷ [])

-- the record r is linked to the record b before it; it is not where the link can't be read
unfoldable pub follows : List ℕ → List ℕ → Bool
follows b r = cond (unreadable b r) false (nonce_links b r)

-- the pile is bad, or has no record k with one before it
unfoldable pub unlinkable : List ℕ → ℕ → Bool
unlinkable pile k = any (length_bad pile ∷ eqb k 0 ∷ leb (records_in pile) k ∷ [])

-- record k is linked to the one before it; it is not where there are no two such records
unfoldable pub linked_of : List ℕ → ℕ → Bool
linked_of pile k = cond (unlinkable pile k) false (follows (record_at pile (k - 1)) (record_at pile k))

-- the first rand is all zero; it is not where the pile is bad
unfoldable pub first_rand_zero : List ℕ → Bool
first_rand_zero pile = cond (length_bad pile) false (zeros (rand_in (record_at pile 0)))
