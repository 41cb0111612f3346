-- How long what the walk writes is.
use Prim.Native.Nat.{ℕ, ◌*◌, ◌%◌, ◌≤◌, ◌<◌}
use mathlib.Core.Path.{◌≡◌}
use mathlib.Core.List.{List}
use native.Mathlib.Nat.{mod-lt}
use native.Mathlib.Omega.{arith}
use lib.ListN.{length, length-take, length-drop}
use Rattle.laws.proofs.Pasted.{length-pasted}
use Rattle.pile.proofs.Recorded.{length-record}
use Rattle.wire_request.proofs.RequestPieces.{length-request}
use Rattle.walk.specs.State.{Going, key_of, request_now}
use Rattle.walk.specs.Taking.{record_now, recorded}
use Rattle.walk.specs.declared.Walk.{Walk}

pub server-below : (w : Walk) → Going w → w.step % w.count < w.count
server-below w g = mod-lt w.step (omega (arith, g.from))

-- the arrays of a state are as long as their types say
pub record Long (w : Walk) : Type 0 where
  pub keys : length w.keys ≡ 256
  pub nonce : length w.nonce ≡ 32
  pub rand : length w.rand ≡ 32

module _ (w : Walk) (long : Long w) where
  pub length-key : Going w → length (key_of w) ≡ 32
  unfolding key_of
  length-key g =
      let h = server-below w g in
      let t = g.to in
      let n = long.keys in
      simp (length-take, length-drop) (omega arith)

  pub length-request-now : length (request_now w) ≡ 1036
  unfolding request_now
  length-request-now = length-request (key_of w) w.nonce long.nonce

  module _ (g : Going w) (response : List ℕ) (short : length response ≤ 2000) where
    pub length-now : length (record_now w response) ≡ 4096
    unfolding record_now
    length-now =
        length-record (key_of w) w.rand (request_now w) response (length-key g) long.rand
        (omega (arith, length-request-now)) short

    -- the buffer keeps its length
    pub length-recorded : (buffer : List ℕ) → 8192 * w.count ≤ length buffer
        → length (recorded w response buffer) ≡ length buffer
    length-recorded buffer h =
        length-pasted buffer (record_now w response) (4096 * w.step) (omega (arith, length-now, g.inside))
