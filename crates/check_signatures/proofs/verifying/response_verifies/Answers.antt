-- `check_signatures::verifying::response_verifies` meets its contract.
use Prim.Native.Nat.{ℕ}
use mathlib.Core.Path.{◌≡◌, ap, ◌∙◌}
use mathlib.Core.List.{List}
use native.Mathlib.Omega.{arith}
use Rattle.ed25519.proofs.Ways.{parts_whole}
use Rattle.wire_message.specs.Tags.{SIG, PUBK, SREP}
use Rattle.wire_message.specs.Values.{value_of}
use Rattle.wire_message.proofs.Edges.{value-ends}
use Rattle.wire_packet.specs.Response.{srep, dele}
use Rattle.wire_request.specs.Texts.{response_context}
use borrow.Author.Rules.{rules}
use Rattle.check_signatures.proofs.verifying.response_verifies.Goals as goal

pub value_of-key-requires : goal.value_of-key-requires
value_of-key-requires c = rw c.dele_of.ensures c.requires.dele-frame

pub returns : goal.returns
returns c =
    let m = c.args.m.now in
    let g = c.requires in
    let key : c.value_of-key.result.now ≡ value_of (dele m) PUBK =
    c.value_of-key.ensures ∙ ap (λ (x : List ℕ). value_of x PUBK) c.dele_of.ensures in
    rw (c.verify_parts.ensures, c.value_of-2.ensures, c.value_of.ensures, key)
    (parts_whole (value_of (dele m) PUBK) response_context (srep m) (value_of m SIG)
    (omega (arith, value-ends m g.root-frame SREP, c.well_formed.0.1)))
