-- `wire_request::texts::response_text` meets its contract.
use mathlib.Core.Path.{ap, ◌∙◌}
use mathlib.Core.List.{List, ◌++◌}
use Prim.Native.Nat.{ℕ}
use Rattle.wire_packet.specs.Response.{srep}
use Rattle.wire_packet.proofs.ResponseCodes.{signed-body}
use Rattle.wire_request.specs.Texts.{response_context, response_text}
use Rattle.wire_request.proofs.Answered.{writer-refused, writer-handed}
use borrow.Author.Rules.{rules}
use Rattle.std.specs.Prelude.{Err}
use Rattle.refusal.proofs.Passing.{error-is, error-refuses, goes-on}
use Rattle.wire_packet.specs.Response.{signed_code}
use mathlib.Core.Path.{◌≡◌, refl}
use Rattle.wire_request.proofs.texts.response_text.Goals as goal

pub returns-in_err-signed_code : goal.returns-in_err-signed_code
returns-in_err-signed_code c =
    let e = c.in_err-signed_code.field-0.0 in
    let told : c.signed_code.result ≡ Err e = search rules in
    let handed : c.from_residual.result ≡ Err e = search rules in
    let why = signed_code c.args.p.now in
    let w = writer-refused (response_text c.args.p.now) c.args.out.now (error-is why c.signed_code.ensures told) (error-refuses why c.signed_code.ensures told) in
    rw handed (record { value = w.0; out_after = w.1 })

pub body_of-requires : goal.body_of-requires
body_of-requires c = (signed-body _ _ refl
    (goes-on _ c.signed_code.ensures (search rules))).0

pub value_of-requires : goal.value_of-requires
value_of-requires c =
    let s = (signed-body _ _ refl
    (goes-on _ c.signed_code.ensures (search rules))).1 in
    rw c.body_of.ensures s.root-frame

pub returns : goal.returns
returns c =
    let value-is = c.value_of.ensures ∙ ap srep c.body_of.ensures in
    let h = c.write_text.ensures in
    let w =
    writer-handed c.args.out.now refl (goes-on _ c.signed_code.ensures (search rules))
    (ap (λ (v : List ℕ). response_context ++ v) value-is) (h.value, h.out_after) in
    record { value = w.0; out_after = w.1 }
