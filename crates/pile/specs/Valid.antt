-- What is said of one record (document 01, "Piles and reports", and the order of codes): 16, then 14 and 1 to 13, else
-- its window, with the delegated key beside it (request P9). Its rand plays no part in that.
-- Where there is no record to judge it is 15: document 01 has no code for a place past the last.
use Rattle.std.specs.Prelude.{ℕ, ◌+◌, ◌*◌, Bool, not, List, [], ◌∷◌, leb, ltb, drop, Err, Result}
use Rattle.laws.specs.Any.{any}
use Rattle.laws.specs.Zeros.{zeros}
use Rattle.refusal.specs.Refusal.{refusal, first, when}
use Rattle.refusal.specs.declared.Refusal.{Refusal}
use Rattle.check_response.specs.Check.{check_code, window_in, pubk_in, verdict_by, key_by}
use Rattle.check_response.specs.declared.Checked.{Checked}
use Rattle.check_response.specs.declared.Window.{Window}
use Rattle.wire_packet.specs.Blank.{zeros32}
use Rattle.wire_packet.specs.Packet.{body}
use Rattle.pile.specs.Layout.{AREA}
use Rattle.pile.specs.Pile.{records_in, record_at, request_length, response_length, zeros_in, request_area, response_area}
use Rattle.pile.specs.Pile.{request_packet, response_packet, said_yes, pile_bad}
use Rattle.pile.specs.declared.Judgement.{Judgement}

-- of an area whose packet has n bytes: n is above 2,000, or a byte past the packet is not zero
unfoldable pub area_bad : List ℕ → ℕ → Bool
area_bad area n = any (ltb AREA n ∷ not (zeros (drop n area)) ∷ [])

-- 16: record lengths above 2,000 or a must-be-zero byte; bytes 72 to 95 are zeros
unfoldable pub record_bad : List ℕ → Bool
record_bad r =
    any
    (area_bad (request_area r) (request_length r)
    ∷ area_bad (response_area r) (response_length r)
    ∷ not (zeros (zeros_in r))
    ∷ [])

-- what is said where a code refuses before the response is looked at
abbrev pub refused_by : ℕ → Checked
refused_by code = record { verdict = Err (refusal code); pubk = zeros32 }

-- 16 first, and then 14 and 1 to 13 of its response; d and s are the two answers
unfoldable pub record_code : List ℕ → Bool → Bool → Refusal
record_code r d s = first (when (record_bad r) 16 ∷ check_code (request_packet r) (response_packet r) d s ∷ [])

unfoldable pub record_verdict : List ℕ → Bool → Bool → Result Window Refusal
record_verdict r d s = verdict_by (record_code r d s) (window_in (body (response_packet r)))

-- the verdict, and beside it the delegated key, 32 zero bytes on a refusal
abbrev pub record_checked : List ℕ → Bool → Bool → Checked
record_checked r d s =
    record { verdict = record_verdict r d s; pubk = key_by (record_code r d s) (pubk_in (body (response_packet r))) }

-- of record k, with its delegation's answer and its response's: the verdict alone, and with the key
abbrev pub judged_at : List ℕ → List ℕ → ℕ → Result Window Refusal
judged_at pile answers k = record_verdict (record_at pile k) (said_yes answers (2 * k)) (said_yes answers (2 * k + 1))

abbrev pub checked_at : List ℕ → List ℕ → ℕ → Checked
checked_at pile answers k = record_checked (record_at pile k) (said_yes answers (2 * k)) (said_yes answers (2 * k + 1))

-- the window and the key of record k's response
abbrev pub window_at : List ℕ → ℕ → Window
window_at pile k = window_in (body (response_packet (record_at pile k)))

abbrev pub pubk_at : List ℕ → ℕ → List ℕ
pubk_at pile k = pubk_in (body (response_packet (record_at pile k)))

-- the pile or its answers are bad, or k is past the last record
unfoldable pub nothing_at : List ℕ → List ℕ → ℕ → Bool
nothing_at pile answers k = any (pile_bad pile answers ∷ leb (records_in pile) k ∷ [])

-- 15 where there is no record k to judge, else that record's own refusal
unfoldable pub judge_code : List ℕ → List ℕ → ℕ → Refusal
judge_code pile answers k =
    first
    (when (nothing_at pile answers k) 15
    ∷ record_code (record_at pile k) (said_yes answers (2 * k)) (said_yes answers (2 * k + 1))
    ∷ [])

-- the judgement on record k, of which c is said
abbrev pub judged_by : ℕ → Checked → Judgement
judged_by k c = record { place = k; verdict = c.verdict; pubk = c.pubk }

-- what the judge answers: the place that it was asked for, the verdict, and the key beside it
unfoldable pub judgement_of : List ℕ → List ℕ → ℕ → Judgement
judgement_of pile answers k =
    record {
      place = k;
      verdict = verdict_by (judge_code pile answers k) (window_at pile k);
      pubk = key_by (judge_code pile answers k) (pubk_at pile k);
    }
