-- What the codes mean: 28, 31, and that 14 is never said; and the places of codes 4 to 7.
use Prim.Native.Nat.{ℕ, ◌*◌, ◌≤◌, ◌<◌}
use mathlib.Core.Path.{◌≡◌, refl, sym, ap}
use mathlib.Core.Bool.{true, false, not}
use mathlib.Core.List.{List}
use mathlib.Core.Logic.{◌↔◌}
use native.Mathlib.Omega.{arith}
use borrow.Author.Tests.{eq-eqb, le-leb}
use lib.ListN.{length}
use Rattle.laws.specs.Same.{same}
use Rattle.laws.proofs.Any.{any_here, any-later}
use Rattle.laws.proofs.First.{says-more, test-true}
use Rattle.laws.proofs.Least.{nowhere, nowhere-at}
use Rattle.refusal.specs.Refusal.{refusal, refusals}
use Rattle.wire_packet.specs.Places.{Carries, Bare, ToldIn}
use Rattle.wire_packet.specs.Request.{request_bad}
use Rattle.wire_packet.proofs.Bare.{when-bare, first-bare, end-bare}
use Rattle.wire_packet.proofs.Places.{over-told, row_told, end-told}
use Rattle.check_response.proofs.Places.{check-place, check-bare}
use Rattle.wire_request.proofs.ReadBack.{request-passes}
use Rattle.walk.specs.State.{over_of, key_at, key_of, request_now}
use Rattle.walk.specs.Starting.{met_before, twice, blank_walk}
use Rattle.walk.specs.Asking.{ask_code}
use Rattle.walk.specs.Taking.{step_code, response_code_now, take_code}
use Rattle.walk.specs.declared.Walk.{Walk}
use Rattle.walk.specs.declared.Heard.{Heard}

-- after the end every call says 28, whatever it is given
pub over-takes : (w : Walk) (h : Heard) (x : List ℕ) (room : ℕ) → over_of w ≡ true → take_code w h x room ≡ refusal 28
unfolding take_code step_code
over-takes w h x room e =
    sym (says-more refusals _ (test-true refusals (refusal 28) _ refl tt refl e) (λ z. omega (arith, z)))

pub over-asks : (w : Walk) (room : ℕ) → over_of w ≡ true → ask_code w room ≡ refusal 28
unfolding ask_code
over-asks w room e = sym (test-true refusals (refusal 28) _ refl tt refl e)

pub over-at-end : (w : Walk) → 2 * w.count ≤ w.step → over_of w ≡ true
unfolding over_of
over-at-end w h = any-later _ _ (any-later _ _ (any_here _ (le-leb (2 * w.count) w.step h)))

-- and so does what a refused start hands out
pub over-blank : over_of blank_walk ≡ true
unfolding over_of blank_walk
over-blank = any_here _ refl

-- our request is never bad, whatever the state
pub never-14 : (w : Walk) → length w.nonce ≡ 32 → request_bad (request_now w) ≡ false
unfolding request_bad request_now
never-14 w n = ap not (eq-eqb _ 0 (request-passes (key_of w) w.nonce n))

-- no key stands there twice exactly where any two of them differ
pub twice-exactly : (keys : List ℕ) (n : ℕ)
    → twice keys n ≡ false ↔ ((i j : ℕ) → i < j → j < n → same (key_at keys i) (key_at keys j) ≡ false)
unfolding twice met_before
twice-exactly keys n = (
  λ e i j l u. nowhere-at (λ (k : ℕ). same (key_at keys k) (key_at keys j)) j i (nowhere-at (met_before keys) n j e u) l,
  λ f.
      nowhere (met_before keys) n
      (λ j u. nowhere (λ (k : ℕ). same (key_at keys k) (key_at keys j)) j (λ i l. f i j l u)),
)

module _ (w : Walk) (h : Heard) (x : List ℕ) (room : ℕ) where
  -- a code of 4 to 7 is that of the response packet, at its place (request P8),
  pub take-place : Carries (take_code w h x room).code → ToldIn x (take_code w h x room)
  unfolding take_code step_code response_code_now
  take-place =
      row_told x _ _
      (row_told x _ _ (over-told x _ 28 (omega arith))
      (row_told x _ _ (over-told x _ 19 (omega arith))
      (row_told x _ _ (over-told x _ 26 (omega arith))
      (row_told x _ _ (over-told x _ 27 (omega arith)) (end-told x)))))
      (row_told x _ _ (check-place (request_now w) x h.delegation h.signature) (end-told x))

  -- and every other code has none
  pub take_bare : Bare (take_code w h x room)
  unfolding take_code step_code response_code_now
  take_bare =
      first-bare _ _
      (first-bare _ _ (when-bare _ 28)
      (first-bare _ _ (when-bare _ 19)
      (first-bare _ _ (when-bare _ 26) (first-bare _ _ (when-bare _ 27) end-bare))))
      (first-bare _ _ (check-bare (request_now w) x h.delegation h.signature) end-bare)
