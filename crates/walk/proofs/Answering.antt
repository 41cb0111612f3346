-- The answer of the checks of a call: a refusal, or the window of the response.
use Rattle.std.specs.Prelude.{Err, Ok, Result}
use Prim.Native.Nat.{ℕ}
use mathlib.Core.Path.{◌≡◌, refl, sym, ◌∙◌}
use mathlib.Core.List.{List}
use Rattle.laws.proofs.First.{says-0, says-more, is_last, quiet_of}
use Rattle.refusal.specs.Refusal.{refusals}
use Rattle.refusal.specs.declared.Refusal.{Refusal}
use Rattle.check_response.specs.Check.{window_in, verdict_of}
use Rattle.check_response.specs.declared.Window.{Window}
use Rattle.check_response.proofs.Lent.{by-valid, by-refused, refused-by}
use Rattle.wire_packet.specs.Packet.{body}
use Rattle.walk.specs.State.{request_now}
use Rattle.walk.specs.Taking.{step_code, response_code_now, take_code}
use Rattle.walk.specs.declared.Walk.{Walk}
use Rattle.walk.specs.declared.Heard.{Heard}

module _ (w : Walk) (h : Heard) (x : List ℕ) (room : ℕ) {c : Refusal} (e : c ≡ step_code w h room) where
  -- what refuses a response before it is looked at is told,
  pub refused-before : (c.code ≡ 0 → ⊥) → c ≡ take_code w h x room
  unfolding take_code
  refused-before n = says-more refusals _ e n

  -- and else what the response check says:
  module _ (z : c.code ≡ 0) where
    response-tells : response_code_now w h x ≡ take_code w h x room
    unfolding take_code
    response-tells = says-0 refusals _ _ e z (is_last refusals refl)

    module _ {v : Result Window Refusal} (f : v ≡ verdict_of (request_now w) x h.delegation h.signature) where
      -- its refusal,
      pub refused-by-check : {why : Refusal} → v ≡ Err why
          → (why ≡ take_code w h x room) × (why.code ≡ 0 → ⊥)
      unfolding verdict_of response_code_now
      refused-by-check {why} g =
          let k = response_code_now w h x in
          let n : k.code ≡ 0 → ⊥ = by-refused k (window_in (body x)) why (sym f ∙ g) in
          let both : Err why ≡ Err k = sym g ∙ f ∙ refused-by k (window_in (body x)) n in
          let is : why ≡ k = cc in
          (is ∙ response-tells, λ y. n (quiet_of refusals is y))

      -- or none, and the response's window
      pub passed-check : {u : Window} → v ≡ Ok u → ((take_code w h x room).code ≡ 0) × (u ≡ window_in (body x))
      unfolding verdict_of response_code_now
      passed-check {u} g =
          let k = by-valid (response_code_now w h x) (window_in (body x)) u (sym f ∙ g) in
          (quiet_of refusals response-tells k.0, k.1)
