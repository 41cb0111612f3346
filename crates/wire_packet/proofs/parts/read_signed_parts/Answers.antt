-- wire_packet/proofs/parts/read_signed_parts/Answers.antt
-- `wire_packet::parts::read_signed_parts` meets its contract.
use Rattle.std.specs.Prelude.{Err}
use mathlib.Core.Path.{◌≡◌, refl, ap, ◌∙◌}
use Rattle.refusal.proofs.Passing.{goes-on, answers-value, answers-refusal}
use Rattle.wire_packet.specs.Parts.{parts_in, parts_of}
use Rattle.wire_packet.proofs.ResponseCodes.{signed-body}
use borrow.Author.Rules.{rules}
use Rattle.wire_packet.proofs.parts.read_signed_parts.Goals as goal

pub returns-in_err-signed_code : goal.returns-in_err-signed_code
unfolding parts_of
returns-in_err-signed_code c =
    let e = c.in_err-signed_code.field-0.0 in
    let told : c.signed_code.result ≡ Err e = search rules in
    let handed : c.from_residual.result ≡ Err e = search rules in
    rw handed (answers-refusal _ _ c.signed_code.ensures told)

pub body_of-requires : goal.body_of-requires
body_of-requires c = (signed-body _ _ refl (goes-on _ c.signed_code.ensures (search rules))).0

pub shaped_parts-requires : goal.shaped_parts-requires
shaped_parts-requires c =
    rw c.body_of.ensures (signed-body _ _ refl (goes-on _ c.signed_code.ensures (search rules))).1

pub returns : goal.returns
unfolding parts_of
returns c =
    answers-value _ c.signed_code.ensures (search rules) (c.shaped_parts.ensures ∙ ap parts_in c.body_of.ensures)
