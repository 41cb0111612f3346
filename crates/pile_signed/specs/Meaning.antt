-- Document 01's sentences on records and reports with "verifies under the key" for a yes (request P11). They are proved
-- to hold exactly where the checks refuse nothing.
use Rattle.std.specs.Prelude.{List, ℕ, ◌-◌, ◌≤◌, ◌<◌, T}
use Rattle.pile.specs.Meaning.{WholePile, Undamaged, IsLinked, ZeroRand}
use Rattle.pile.specs.Pile.{records_in, record_at, key_in, request_packet, response_packet}
use Rattle.pile.specs.Valid.{window_at}
use Rattle.pile_report.specs.Taking.{run_bytes}
use Rattle.pile_runs.specs.Clash.{windows_clash}
use Rattle.check_signatures.specs.Meaning.{PassesSigned}

-- record k of a pile of 1 to 16 records is valid: no length is above 2,000, what must be zero is, and the response is
-- valid under the key that stands in the record
pub record SignedRecord (pile : List ℕ) (k : ℕ) : Type 0 where
  pub pile-whole : WholePile pile
  pub there : k < records_in pile
  pub undamaged : Undamaged (record_at pile k)
  pub passes :
      PassesSigned (key_in (record_at pile k)) (request_packet (record_at pile k)) (response_packet (record_at pile k))

-- a pile is a report with nothing beside it: each record is valid and each after the first is linked, the first rand is
-- all zero, and for some i < j the windows contradict
pub record IsSignedReport (pile : List ℕ) : Type 0 where
  pub all_valid : (k : ℕ) → k < records_in pile → SignedRecord pile k
  pub all-linked : (k : ℕ) → 0 < k → k < records_in pile → IsLinked (record_at pile (k - 1)) (record_at pile k)
  pub rand : ZeroRand pile
  pub i : ℕ
  pub j : ℕ
  pub order : i < j
  pub inside : j < records_in pile
  pub contradict : T (windows_clash (window_at pile i) (window_at pile j))

-- the run from record i to record j of a pile, cut out, is a report with nothing beside it
pub record SignedReportIn (pile : List ℕ) (i j : ℕ) : Type 0 where
  pub order : i ≤ j
  pub inside : j < records_in pile
  pub report : IsSignedReport (run_bytes i j pile)
