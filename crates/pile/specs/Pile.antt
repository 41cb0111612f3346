-- Piles (document 01, "Piles and reports"): 1 to 16 records of 4,096 bytes, no header, and beside them two answer bytes
-- a record; code 15.
use Rattle.std.specs.Prelude.{ℕ, ◌*◌, ◌/◌, ◌%◌, Bool, not, List, [], ◌∷◌, eqb, ltb, length, take, drop, get_or}
use Rattle.laws.specs.Any.{any}
use Rattle.laws.specs.Least.{somewhere}
use Rattle.laws.specs.Numbers.{le}
use Rattle.laws.specs.Pasted.{part}
use Rattle.refusal.specs.Refusal.{when}
use Rattle.refusal.specs.declared.Refusal.{Refusal}
use Rattle.pile.specs.Layout.{KEY, RAND, REQUEST-LENGTH, RESPONSE-LENGTH, ZEROS, REQUEST, RESPONSE, RECORD}

-- ---- the pile

-- how many records it has, and record k, from 0
abbrev pub records_in : List ℕ → ℕ
records_in pile = length pile / RECORD

unfoldable pub record_at : List ℕ → ℕ → List ℕ
record_at pile k = take RECORD (drop (RECORD * k) pile)

-- ---- a record r

-- key 0-31, the server's long-term key: no check here reads it, since signatures come as answers; those that verify
-- them by themselves do (request P11)
abbrev pub key_in : List ℕ → List ℕ
key_in r = part KEY RAND r

-- rand 32-63
abbrev pub rand_in : List ℕ → List ℕ
rand_in r = part RAND REQUEST-LENGTH r

-- request length u32 at 64, response length u32 at 68
abbrev pub request_length : List ℕ → ℕ
request_length r = le 4 r REQUEST-LENGTH

abbrev pub response_length : List ℕ → ℕ
response_length r = le 4 r RESPONSE-LENGTH

-- zeros 72-95
abbrev pub zeros_in : List ℕ → List ℕ
zeros_in r = part ZEROS REQUEST r

-- request area 96-2,095, response area 2,096-4,095
abbrev pub request_area : List ℕ → List ℕ
request_area r = part REQUEST RESPONSE r

abbrev pub response_area : List ℕ → List ℕ
response_area r = part RESPONSE RECORD r

-- the packets: the first bytes of an area, as many as its length says
unfoldable pub request_packet : List ℕ → List ℕ
request_packet r = take (request_length r) (request_area r)

unfoldable pub response_packet : List ℕ → List ℕ
response_packet r = take (response_length r) (response_area r)

-- ---- the answers: of record k, the delegation's is byte 2 k and the response's byte 2 k + 1; 1 is yes and 0 no

unfoldable pub said_yes : List ℕ → ℕ → Bool
said_yes answers i = eqb (get_or answers i 0) 1

-- ---- code 15

-- the pile is not 1 to 16 whole records
unfoldable pub length_bad : List ℕ → Bool
length_bad pile = any (not (eqb (length pile % RECORD) 0) ∷ ltb (records_in pile) 1 ∷ ltb 16 (records_in pile) ∷ [])

-- answer byte i is above 1, and some answer byte is
abbrev pub above_one : List ℕ → ℕ → Bool
above_one answers i = ltb 1 (get_or answers i 0)

unfoldable pub answer_bad : List ℕ → Bool
answer_bad answers = somewhere (above_one answers) (length answers)

-- pile length, answer count or an answer byte above 1
unfoldable pub pile_bad : List ℕ → List ℕ → Bool
pile_bad pile answers = any (length_bad pile ∷ not (eqb (length answers) (2 * records_in pile)) ∷ answer_bad answers ∷ [])

-- code 15 of a pile and its answers
unfoldable pub pile_code : List ℕ → List ℕ → Refusal
pile_code pile answers = when (pile_bad pile answers) 15
