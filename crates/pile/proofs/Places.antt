-- A code of 4 to 7 in a pile's line is that of the record's response packet, at its place (request P8); 15, 16 and
-- every other code have none.
use Prim.Native.Nat.{ℕ, ◌+◌, ◌*◌}
use mathlib.Core.List.{List}
use mathlib.Core.Bool.{Bool}
use native.Mathlib.Omega.{arith}
use Rattle.wire_packet.specs.Places.{Carries, Bare, ToldIn}
use Rattle.wire_packet.proofs.Bare.{when-bare, first-bare, end-bare}
use Rattle.wire_packet.proofs.Places.{over-told, row_told, end-told}
use Rattle.check_response.proofs.Places.{check-place, check-bare}
use Rattle.pile.specs.Pile.{record_at, request_packet, response_packet, said_yes}
use Rattle.pile.specs.Valid.{record_code, judge_code}

module _ (r : List ℕ) (d s : Bool) where
  record-place : Carries (record_code r d s).code → ToldIn (response_packet r) (record_code r d s)
  unfolding record_code
  record-place =
      row_told p _ _ (over-told p _ 16 (omega arith))
      (row_told p _ _ (check-place (request_packet r) p d s) (end-told p))
    where
      p : List ℕ
      p = response_packet r

  record-bare : Bare (record_code r d s)
  unfolding record_code
  record-bare =
      first-bare _ _ (when-bare _ 16)
      (first-bare _ _ (check-bare (request_packet r) (response_packet r) d s) end-bare)

module _ (pile answers : List ℕ) (k : ℕ) where
  pub judge-place : Carries (judge_code pile answers k).code
      → ToldIn (response_packet (record_at pile k)) (judge_code pile answers k)
  unfolding judge_code
  judge-place =
      row_told p _ _ (over-told p _ 15 (omega arith))
      (row_told p _ _ (record-place (record_at pile k) (said_yes answers (2 * k)) (said_yes answers (2 * k + 1)))
      (end-told p))
    where
      p : List ℕ
      p = response_packet (record_at pile k)

  pub judge-bare : Bare (judge_code pile answers k)
  unfolding judge_code
  judge-bare =
      first-bare _ _ (when-bare _ 15)
      (first-bare _ _ (record-bare (record_at pile k) (said_yes answers (2 * k)) (said_yes answers (2 * k + 1))) end-bare)
