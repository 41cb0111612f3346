-- `walk::taking::take` meets its contract.
use Prim.Native.Nat.{ℕ}
use Rattle.std.specs.Prelude.{Err}
use mathlib.Core.Path.{◌≡◌, refl, ap, ◌∙◌}
use mathlib.Core.List.{List}
use Rattle.check_response.specs.Check.{verdict_of, checked_of}
use Rattle.check_response.specs.declared.Checked.{Checked}
use Rattle.walk.specs.State.{request_now}
use Rattle.walk.specs.declared.Walk.{Walk}
use Rattle.walk.specs.declared.Heard.{Heard}
use Rattle.walk.proofs.Accepting.{step-goes}
use Rattle.walk.proofs.Answering.{refused-before, refused-by-check, passed-check}
use Rattle.walk.proofs.Taken.{untaken}
use Rattle.refusal.proofs.Passing.{goes-on, error-is, error-refuses}
use borrow.Author.Rules.{rules}
use Rattle.walk.proofs.taking.take.Goals as goal

-- what the response check says of the response to the request that was asked
told : (w : Walk) (h : Heard) (x : List ℕ) {q : List ℕ} {r : Checked} → q ≡ request_now w
    → r ≡ checked_of q x h.delegation h.signature
    → r.verdict ≡ verdict_of (request_now w) x h.delegation h.signature
told w h x e f = ap (λ (r : Checked). r.verdict) f ∙ ap (λ (q : List ℕ). verdict_of q x h.delegation h.signature) e

pub returns-in_err-step_code : goal.returns-in_err-step_code
returns-in_err-step_code c =
    let e = c.in_err-step_code.field-0.0 in
    let said : c.step_code.result ≡ Err e = search rules in
    let handed : c.from_residual.result ≡ Err e = search rules in
    let n = error-refuses _ c.step_code.ensures said in
    let t =
    untaken c.args.w c.args.h c.args.response.now c.args.pile.now handed
    (refused-before _ _ _ _ (error-is _ c.step_code.ensures said) n) n in
    record { said_value = t.0; takes = t.1.0; walk_value = t.1.1.0; pile_after = t.1.1.1 }

pub request_now-q-requires : goal.request_now-q-requires
request_now-q-requires c = step-goes _ _ _ refl (goes-on _ c.step_code.ensures (search rules))

pub returns-in_err-window : goal.returns-in_err-window
returns-in_err-window c =
    let e = c.in_err-window.field-0.0 in
    let says =
    told c.args.w c.args.h c.args.response.now c.request_now-q.ensures
    c.check_response-checked.ensures.value in
    let said : c.check_response-checked.result.verdict ≡ Err e = search rules in
    let handed : c.from_residual-in_err-window.result ≡ Err e = search rules in
    let no = refused-by-check _ _ _ _ refl (goes-on _ c.step_code.ensures (search rules)) says said in
    let t = untaken c.args.w c.args.h c.args.response.now c.args.pile.now handed no.0 no.1 in
    record { said_value = t.0; takes = t.1.0; walk_value = t.1.1.0; pile_after = t.1.1.1 }

pub accept-requires : goal.accept-requires
accept-requires c =
    let says =
    told c.args.w c.args.h c.args.response.now c.request_now-q.ensures
    c.check_response-checked.ensures.value in
    let yes = passed-check _ _ _ _ refl (goes-on _ c.step_code.ensures (search rules)) says (search rules) in
    (yes.0, c.request_now-q.ensures, yes.1)
