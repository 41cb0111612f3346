-- A code of 4 to 7 that the check tells is that of the response packet, at its place (request P8); 14 and every other
-- code have none.
use Prim.Native.Nat.{ℕ}
use mathlib.Core.List.{List}
use mathlib.Core.Bool.{Bool}
use native.Mathlib.Omega.{arith}
use Rattle.wire_packet.specs.Packet.{body}
use Rattle.wire_packet.specs.Places.{Carries, Bare, ToldIn}
use Rattle.wire_packet.proofs.Bare.{when-bare, first-bare, end-bare, response-bare}
use Rattle.wire_packet.proofs.Places.{Told, over-told, row_told, end-told, response-place}
use Rattle.check_response.specs.Check.{answers_code, agreement_code, check_code}

module _ (q p : List ℕ) (d s : Bool) where
  agreement-told : Told p (agreement_code q (body q) (body p) d s)
  unfolding agreement_code answers_code
  agreement-told =
      row_told p _ _ (over-told p _ 8 (omega arith))
      (row_told p _ _ (over-told p _ 8 (omega arith))
      (row_told p _ _ (over-told p _ 9 (omega arith))
      (row_told p _ _ (over-told p _ 10 (omega arith))
      (row_told p _ _ (over-told p _ 11 (omega arith))
      (row_told p _ _
      (row_told p _ _ (over-told p _ 12 (omega arith)) (row_told p _ _ (over-told p _ 13 (omega arith)) (end-told p)))
      (end-told p))))))

  pub check-place : Carries (check_code q p d s).code → ToldIn p (check_code q p d s)
  unfolding check_code
  check-place =
      row_told p _ _ (over-told p _ 14 (omega arith))
      (row_told p _ _ (response-place p) (row_told p _ _ agreement-told (end-told p)))

  agreement-bare : Bare (agreement_code q (body q) (body p) d s)
  unfolding agreement_code answers_code
  agreement-bare =
      first-bare _ _ (when-bare _ 8)
      (first-bare _ _ (when-bare _ 8)
      (first-bare _ _ (when-bare _ 9)
      (first-bare _ _ (when-bare _ 10)
      (first-bare _ _ (when-bare _ 11)
      (first-bare _ _ (first-bare _ _ (when-bare _ 12) (first-bare _ _ (when-bare _ 13) end-bare)) end-bare)))))

  pub check-bare : Bare (check_code q p d s)
  unfolding check_code
  check-bare =
      first-bare _ _ (when-bare _ 14) (first-bare _ _ (response-bare p) (first-bare _ _ agreement-bare end-bare))
