-- `server_batch::saying::sign_root` meets its contract.
use mathlib.Core.Path.{ap, ◌∙◌}
use native.Mathlib.Omega.{arith}
use lib.ListN.{replicate}
use Rattle.laws.proofs.Pasted.{pasted-end}
use Rattle.server_parts.proofs.Pieces.{length-srep}
use Rattle.ed25519_sign.specs.Signing.{signature_parts}
use Rattle.wire_request.specs.Texts.{response_context}
use Rattle.server_parts.specs.Signed.{srep_bytes}
use Rattle.server_batch.specs.Answering.{signature_over}
use Rattle.server_batch.proofs.saying.sign_root.Goals as goal

pub returns : goal.returns
unfolding signature_over
returns c =
    let a = c.args in
    let long = length-srep a.root a.service.now.midp a.service.now.radi (omega (arith, c.well_formed)) in
    let whole = c.put_srep.ensures ∙ pasted-end (replicate 92 0) (srep_bytes a.root a.service.now.midp a.service.now.radi) 0
    (omega (arith, long)) in
    c.sign_parts_with.ensures ∙ ap (signature_parts a.service.now.seed response_context) whole
