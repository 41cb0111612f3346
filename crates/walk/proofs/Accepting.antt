-- What the tests of a call say where they passed.
use Prim.Native.Nat.{ℕ, ◌*◌, ◌%◌, ◌-◌, ◌≤◌}
use mathlib.Core.Path.{◌≡◌, refl, sym, ◌∙◌}
use mathlib.Core.Bool.{Bool, false}
use mathlib.Core.List.{List}
use native.Mathlib.Omega.{arith}
use borrow.Author.Tests.{ltb-false, leb-false, eqb-true, not-false}
use lib.ListN.{length}
use Rattle.laws.proofs.Any.{any-parts}
use Rattle.laws.proofs.First.{row-quiet, test-quiet, quiet_of}
use Rattle.refusal.specs.Refusal.{refusals}
use Rattle.refusal.specs.declared.Refusal.{Refusal}
use Rattle.check_response.specs.Check.{check_code}
use Rattle.wire_packet.specs.Response.{response_code}
use Rattle.wire_packet.proofs.Packets.{packet-0}
use Rattle.walk.specs.State.{over_of, Going, request_now}
use Rattle.walk.specs.Starting.{servers_in, twice, keys_bad, start_code}
use Rattle.walk.specs.Asking.{ask_code}
use Rattle.walk.specs.Taking.{clock_wrong, step_code, response_code_now, take_code}
use Rattle.walk.specs.declared.Walk.{Walk}
use Rattle.walk.specs.declared.Heard.{Heard}

-- the walk goes on
pub going : (w : Walk) {t : Bool} → t ≡ over_of w → t ≡ false → Going w
unfolding over_of
going w e f =
    let a = any-parts _ _ (sym e ∙ f) in
    let b = any-parts _ _ a.1 in
    record {
      from = ltb-false _ _ a.0;
      to = ltb-false _ _ b.0;
      inside = leb-false _ _ (any-parts _ _ b.1).0;
    }

-- the clock did not run backwards
pub in-time : (w : Walk) (h : Heard) {t : Bool} → t ≡ clock_wrong w h → t ≡ false
    → (h.sent ≤ h.received) × (w.last ≤ h.sent)
unfolding clock_wrong
in-time w h e f =
    let a = any-parts _ _ (sym e ∙ f) in
    (ltb-false _ _ a.0, ltb-false _ _ (any-parts _ _ a.1).0)

-- a response that passes has at most 2,000 bytes
short : (q p : List ℕ) (d s : Bool) → (check_code q p d s).code ≡ 0 → length p ≤ 2000
unfolding check_code response_code
short q p d s e =
    let a = row-quiet refusals _ _ (row-quiet refusals _ _ e).1 in
    (packet-0 p (row-quiet refusals _ _ a.0).0).most

-- nothing refuses a response before it is looked at
pub step-goes : (w : Walk) (h : Heard) (room : ℕ) {x : Refusal} → x ≡ step_code w h room → x.code ≡ 0 → Going w
unfolding step_code
step-goes w h room e z =
    going w refl (test-quiet refusals _ _ tt (row-quiet refusals _ _ (quiet_of refusals e z)).0)

-- an accepted response
pub record Accepted (w : Walk) (h : Heard) (response : List ℕ) (room : ℕ) : Type 0 where
  pub goes : Going w
  pub fits : 8192 * w.count ≤ room
  pub order : h.sent ≤ h.received
  pub later : w.last ≤ h.sent
  pub quick : h.received - h.sent ≤ w.most
  pub checked : (check_code (request_now w) response h.delegation h.signature).code ≡ 0
  pub short : length response ≤ 2000

pub accepted : (w : Walk) (h : Heard) (response : List ℕ) (room : ℕ) {x : Refusal} → x ≡ take_code w h response room
    → x.code ≡ 0 → Accepted w h response room
unfolding take_code step_code response_code_now
accepted w h response room e z =
    let both = row-quiet refusals _ _ (quiet_of refusals e z) in
    let c19 = row-quiet refusals _ _ (row-quiet refusals _ _ both.0).1 in
    let c26 = row-quiet refusals _ _ c19.1 in
    let c27 = row-quiet refusals _ _ c26.1 in
    let last = row-quiet refusals _ _ both.1 in
    let times = in-time w h refl (test-quiet refusals _ _ tt c26.0) in
    record {
      goes = step-goes w h room refl both.0;
      fits = ltb-false _ _ (test-quiet refusals _ _ tt c19.0);
      order = times.0;
      later = times.1;
      quick = ltb-false _ _ (test-quiet refusals _ _ tt c27.0);
      checked = last.0;
      short = short _ _ _ _ last.0;
    }

-- a start that is not refused
pub record Begun (keys : List ℕ) (room : ℕ) : Type 0 where
  pub from : 3 ≤ servers_in keys
  pub to : servers_in keys ≤ 8
  pub whole : length keys ≡ 32 * servers_in keys
  pub differ : twice keys (servers_in keys) ≡ false
  pub fits : 8192 * servers_in keys ≤ room

pub begun : (keys : List ℕ) (room : ℕ) {x : Refusal} → x ≡ start_code keys room → x.code ≡ 0 → Begun keys room
unfolding start_code keys_bad
begun keys room e z =
    let a = row-quiet refusals _ _ (quiet_of refusals e z) in
    let p = any-parts _ _ (test-quiet refusals _ _ tt a.0) in
    let q = any-parts _ _ p.1 in
    let r = any-parts _ _ q.1 in
    let exact : length keys % 32 ≡ 0 = eqb-true _ _ (not-false _ p.0) in
    record {
      from = ltb-false _ _ q.0;
      to = ltb-false _ _ r.0;
      whole = omega arith;
      differ = (any-parts _ _ r.1).0;
      fits = ltb-false _ _ (test-quiet refusals _ _ tt (row-quiet refusals _ _ a.1).0);
    }

-- no more than 8 keys
pub few : (keys : List ℕ) {t : Bool} → t ≡ keys_bad keys → t ≡ false → servers_in keys ≤ 8
unfolding keys_bad
few keys e f = ltb-false _ _ (any-parts _ _ (any-parts _ _ (any-parts _ _ (sym e ∙ f)).1).1).0

-- the request can be asked
pub askable : (w : Walk) (room : ℕ) {x : Refusal} → x ≡ ask_code w room → x.code ≡ 0 → Going w × (1036 ≤ room)
unfolding ask_code
askable w room e z =
    let a = row-quiet refusals _ _ (quiet_of refusals e z) in (
      going w refl (test-quiet refusals _ _ tt a.0),
      ltb-false _ _ (test-quiet refusals _ _ tt (row-quiet refusals _ _ a.1).0),
    )
