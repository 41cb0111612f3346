-- `check_response::checking::check_code` meets its contract. Each return is the first refusal of the row.
use mathlib.Core.Path.{◌≡◌, refl, ap, ap₂, ◌∙◌}
use mathlib.Core.List.{List}
use Prim.Native.Nat.{ℕ}
use Rattle.std.specs.Prelude.{Err}
use Rattle.refusal.specs.Refusal.{passes}
use Rattle.refusal.proofs.Passing.{goes-on, passed-on, refused-by, last-is, test-on, test-refuses}
use Rattle.wire_packet.proofs.RequestCodes.{lent-body}
use Rattle.wire_packet.proofs.ResponseCodes.{response-body}
use Rattle.check_response.specs.Check.{agreement_code, check_code}
use borrow.Author.Rules.{rules}
use Rattle.check_response.proofs.checking.check_code.Goals as goal

pub returns-then-request_bad : goal.returns-then-request_bad
unfolding check_code
returns-then-request_bad c = test-refuses _ _ c.refuse.ensures tt c.request_bad.ensures c.if-request_bad.true

pub returns-in_err-response_code : goal.returns-in_err-response_code
unfolding check_code
returns-in_err-response_code c =
    let e = c.in_err-response_code.field-0.0 in
    let told : c.response_code.result ≡ Err e = search rules in
    let handed : c.from_residual.result ≡ Err e = search rules in
    rw handed
    (test-on _ _ c.request_bad.ensures c.if-request_bad.false
    (refused-by _ _ c.response_code.ensures told))

pub body_of-requires : goal.body_of-requires
body_of-requires c = (lent-body _ c.request_bad.ensures c.if-request_bad.false).0

pub body_of-requires-2 : goal.body_of-requires-2
body_of-requires-2 c =
    (response-body _ _ refl (goes-on _ c.response_code.ensures (search rules))).0

pub agreement_code-requires : goal.agreement_code-requires
agreement_code-requires c = (
  rw c.body_of.ensures (lent-body _ c.request_bad.ensures c.if-request_bad.false).1,
  rw c.body_of-2.ensures
      (response-body _ _ refl (goes-on _ c.response_code.ensures (search rules))).1,
)

pub returns : goal.returns
unfolding check_code
returns c =
    let a = c.args in
    test-on _ _ c.request_bad.ensures c.if-request_bad.false
    (passed-on _ _ _ c.response_code.ensures (search rules)
    (last-is _
    (c.agreement_code.ensures
    ∙ ap₂ (λ (x y : List ℕ). passes (agreement_code a.q.now x y a.delegation a.signature))
    c.body_of.ensures c.body_of-2.ensures)))
