-- On a walk among servers that sign with their own seeds, the answer of the server that is asked is taken, with no
-- answers lent, and its window is of what that server says.
use Prim.Native.Nat.{ℕ, ◌*◌, ◌%◌, ◌≤◌, ◌<◌}
use mathlib.Core.Path.{◌≡◌, refl, sym, ap, ◌∙◌}
use mathlib.Core.Bool.{false}
use mathlib.Core.List.{List}
use native.Mathlib.Omega.{arith}
use borrow.Author.Tests.{le-ltb, lt-leb}
use lib.ListN.{length, replicate}
use Rattle.check_response.specs.Check.{check_code, window_in, verdict_of}
use Rattle.check_response.specs.Window.{window_of}
use Rattle.check_response.specs.declared.Checked.{Checked}
use Rattle.check_response.proofs.Lent.{by-valid}
use Rattle.check_signatures.specs.SignatureAnswers.{delegated, responded}
use Rattle.ed25519_sign.specs.Signing.{public_of}
use Rattle.laws.proofs.Any.{any-not, any_none}
use Rattle.laws.proofs.First.{test-false, is_last, is-empty, quiet_of, none-quiet, says-0}
use Rattle.refusal.specs.Refusal.{refusals}
use Rattle.server_signed_laws.specs.Signer.{Signer, PassesFor}
use Rattle.server_signed_laws.proofs.Served.{alone-served}
use Rattle.walk.specs.Standing.{InStep}
use Rattle.walk.specs.Starting.{servers_in}
use Rattle.walk.specs.State.{over_of, Going, key_at, key_of, server_of, request_now}
use Rattle.walk.specs.Taking.{clock_wrong, step_code, response_code_now, take_code}
use Rattle.walk.specs.declared.Walk.{Walk}
use Rattle.walk.proofs.Ending.{key-front}
use Rattle.walk.proofs.Lengths.{length-request-now, server-below}
use Rattle.walk.proofs.Standing.{stands-long}
use Rattle.wire_packet.specs.Packet.{body}
use Rattle.wire_packet.specs.Request.{request_code}
use Rattle.wire_request.proofs.ReadBack.{request-passes}
use Rattle.walk_served_laws.specs.Tour.{Tour, answer_in, heard_in}

goes_on : (w : Walk) → Going w → over_of w ≡ false
unfolding over_of
goes_on w g =
    any-not _ (le-ltb w.count 3 g.from)
    (any-not _ (le-ltb 8 w.count g.to) (any-not _ (lt-leb (2 * w.count) w.step g.inside) any_none))

module _ {keys nonce : List ℕ} {most : ℕ} (t : Tour keys most) (w : Walk) (b : List ℕ) (st : InStep keys nonce most w b)
    (g : Going w) (since : w.last ≤ t.sent w.step) where
  abbrev server : Signer
  server = t.server (server_of w)

  -- the server that is asked has the key that the walk has
  below : server_of w < servers_in keys
  below = omega (arith, st.counted, server-below w g)

  key-is : key_of w ≡ public_of server.long-term
  unfolding key_of
  key-is =
      ap (λ (k : List ℕ). key_at k (server_of w)) st.over-these
      ∙ key-front keys (replicate 256 0) (server_of w) (omega (arith, st.whole, server-below w g))
      ∙ t.keyed (server_of w) below

  request-good : (request_code (request_now w)).code ≡ 0
  unfolding request_now
  request-good = request-passes (key_of w) w.nonce st.nonce-long

  passes : PassesFor server (request_now w) (answer_in t w) (t.midp w.step) (t.radi w.step)
  passes =
      let time = t.timed w.step in
      let asked : w.step % servers_in keys ≡ server_of w = ap (λ (n : ℕ). w.step % n) (sym st.counted) in
      (alone-served server (request_now w) (t.midp w.step) (t.radi w.step) (rw asked at time) request-good
      (omega (arith, length-request-now w (stands-long keys nonce most w b st)))).1

  -- so it is valid, and its window is of what the server said
  valid : ((check_code (request_now w) (answer_in t w) (delegated (key_of w) (answer_in t w)) (responded (answer_in t w))
      ).code ≡ 0)
      × (window_of (t.midp w.step) (t.radi w.step) server.mint server.maxt
      ≡ window_in (body (answer_in t w)))
  unfolding verdict_of
  valid = by-valid _ (window_in (body (answer_in t w))) _ (ap (λ (x : Checked). x.verdict) (rw (← key-is) at passes))

  pub window-is : window_in (body (answer_in t w))
      ≡ window_of (t.midp w.step) (t.radi w.step) server.mint server.maxt
  window-is = sym valid.1

  in_order : clock_wrong w (heard_in t w) ≡ false
  unfolding clock_wrong
  in_order =
      any-not _ (le-ltb (t.received w.step) (t.sent w.step) (t.order w.step))
      (any-not _ (le-ltb (t.sent w.step) w.last since) any_none)

  -- nothing refuses it before it is looked at,
  before-quiet : (step_code w (heard_in t w) (length b)).code ≡ 0
  unfolding step_code
  before-quiet =
      let h = t.quick w.step in
      none-quiet refusals
      (sym
      (test-false refusals _ _ refl (goes_on w g)
      (test-false refusals _ _ refl (le-ltb (length b) (8192 * w.count) st.room)
      (test-false refusals _ _ refl in_order
      (test-false refusals _ _ refl (le-ltb w.most _ (rw st.allowed h)) (is-empty refusals refl))))))

  -- and nothing then
  pub answer-taken : (take_code w (heard_in t w) (answer_in t w) (length b)).code ≡ 0
  unfolding take_code response_code_now
  answer-taken = quiet_of refusals (says-0 refusals _ _ refl before-quiet (is_last refusals refl)) valid.0
