-- check_signatures/proofs/verifying/answers/Answers.antt
-- `check_signatures::verifying::answers` meets its contract.
use mathlib.Core.Path.{refl, sym, ap, ◌∙◌}
use borrow.Author.Tests.{ne_eqb}
use Rattle.refusal.specs.declared.Refusal.{Refusal}
use Rattle.refusal.proofs.Passing.{goes-on, error-is, error-refuses}
use Rattle.wire_packet.specs.Response.{signed_code}
use Rattle.wire_packet.proofs.ResponseCodes.{signed-body}
use Rattle.check_signatures.specs.SignatureAnswers.{delegated, responded}
use Rattle.check_signatures.proofs.Verdicts.{delegated-as, responded-as}
use borrow.Author.Rules.{rules}
use Rattle.check_signatures.proofs.verifying.answers.Goals as goal

pub returns-in-Err : goal.returns-in-Err
unfolding delegated responded
returns-in-Err c =
    let why = signed_code c.args.response.now in
    let is = c.signed_code.ensures in
    rw (ne_eqb why.code 0
    (λ z. error-refuses why is c.in-Err.is (ap (λ (x : Refusal). x.code) (error-is why is c.in-Err.is) ∙ z)))

pub body_of-m-requires : goal.body_of-m-requires
body_of-m-requires c = (signed-body _ _ refl (goes-on _ c.signed_code.ensures (search rules))).0

pub delegation_verifies-requires : goal.delegation_verifies-requires
delegation_verifies-requires c =
    rw c.body_of-m.ensures (signed-body _ _ refl (goes-on _ c.signed_code.ensures (search rules))).1

pub response_verifies-requires : goal.response_verifies-requires
response_verifies-requires c =
    rw c.body_of-m.ensures (signed-body _ _ refl (goes-on _ c.signed_code.ensures (search rules))).1

pub returns-in-Ok : goal.returns-in-Ok
returns-in-Ok c =
    let p = c.args.response.now in
    let z = goes-on _ c.signed_code.ensures (search rules) in
    rw (
      delegated-as c.args.key p z,
      responded-as c.args.key p z,
      c.response_verifies.ensures,
      c.delegation_verifies.ensures,
      c.body_of-m.ensures,
    )
