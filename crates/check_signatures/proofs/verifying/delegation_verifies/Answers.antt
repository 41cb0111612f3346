-- `check_signatures::verifying::delegation_verifies` meets its contract.
use Prim.Native.Nat.{ℕ}
use mathlib.Core.Path.{◌≡◌, ap, ◌∙◌}
use mathlib.Core.List.{List}
use native.Mathlib.Omega.{arith}
use Rattle.ed25519.proofs.Ways.{parts_whole}
use Rattle.wire_message.specs.Tags.{SIG, CERT, DELE}
use Rattle.wire_message.specs.Values.{value_of}
use Rattle.wire_message.proofs.Edges.{value-ends}
use Rattle.wire_packet.specs.Response.{cert, dele}
use Rattle.wire_request.specs.Texts.{delegation_context}
use borrow.Author.Rules.{rules}
use Rattle.check_signatures.proofs.verifying.delegation_verifies.Goals as goal

pub value_of-signature-requires : goal.value_of-signature-requires
value_of-signature-requires c = rw c.value_of.ensures c.requires.cert-frame

pub returns : goal.returns
returns c =
    let m = c.args.m.now in
    let g = c.requires in
    let sig : c.value_of-signature.result.now ≡ value_of (cert m) SIG =
    c.value_of-signature.ensures ∙ ap (λ (x : List ℕ). value_of x SIG) c.value_of.ensures in
    rw (c.verify_parts.ensures, c.dele_of.ensures, sig)
    (parts_whole c.args.key delegation_context (dele m) (value_of (cert m) SIG)
    (omega (arith, value-ends m g.root-frame CERT, value-ends (cert m) g.cert-frame DELE, c.well_formed.1.0.1)))
