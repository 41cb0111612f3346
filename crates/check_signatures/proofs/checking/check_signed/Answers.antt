-- `check_signatures::checking::check_signed` meets its contract.
use Rattle.std.specs.Prelude.{Ok}
use Rattle.std.proofs.Common.{rules, ◌≡◌, ℕ, ◌≤◌, length, List, ◌++◌, true, Bool}
use mathlib.Core.Path.{refl, sym, ap, ◌∙◌}
use Rattle.ed25519.specs.Verification.{verifies}
use Rattle.wire_message.specs.Tags.{SIG, PUBK}
use Rattle.wire_message.specs.Values.{value_of}
use Rattle.wire_packet.specs.Packet.{body}
use Rattle.wire_packet.specs.Response.{srep, cert, dele}
use Rattle.wire_request.specs.Texts.{delegation_context, response_context}
use Rattle.refusal.specs.declared.Refusal.{Refusal}
use Rattle.refusal.proofs.Passing.{goes-on, error-is, error-refuses}
use Rattle.check_response.specs.Check.{answers_code, check_code, checked_of}
use Rattle.check_response.specs.declared.Checked.{Checked}
use Rattle.check_response.specs.declared.Window.{Window}
use Rattle.check_response.proofs.Lent.{checked-body, refused-clauses}
use Rattle.check_signatures.specs.SignatureAnswers.{delegated, responded}
use Rattle.check_signatures.proofs.Verdicts.{check-clauses, told-anyway, passed-code, left-code, passed-still}
use Rattle.check_signatures.proofs.Verdicts.{checked-texts, delegated-as, responded-as}
use Rattle.check_signatures.proofs.checking.check_signed.Goals as goal

module _ (key q p : List ℕ) {r : Checked} (e : r ≡ checked_of q p true true) (w : Window) (f : r.verdict ≡ Ok w) where
  -- what is left is 12 and 13 of the two answers
  left : {why : Refusal} {m : List ℕ} → m ≡ body p
      → why ≡ answers_code (verifies key (delegation_context ++ dele m) (value_of (cert m) SIG))
      (verifies (value_of (dele m) PUBK) (response_context ++ srep m) (value_of m SIG))
      → why ≡ answers_code (delegated key p) (responded p)
  left b h =
      let z = checked-texts q p (passed-code q p true true e w f) in
      rw (delegated-as key p z, responded-as key p z, h, b)

pub body_of-requires : goal.body_of-requires
body_of-requires c =
    (checked-body _ _ true true refl
    (passed-code _ _ true true c.check_response-c.ensures.value c.in-Ok.field-0 c.in-Ok.is)).0

pub signature_code-requires : goal.signature_code-requires
signature_code-requires c =
    rw c.body_of.ensures
    (checked-body _ _ true true refl
    (passed-code _ _ true true c.check_response-c.ensures.value c.in-Ok.field-0 c.in-Ok.is)).1

pub returns-in-Err : goal.returns-in-Err
returns-in-Err c =
    let s =
    check-clauses _ _ _ _
    (told-anyway _ _ _ _ c.check_response-c.ensures.value c.in-Err.field-0 c.in-Err.is) in
    record { verdict_value = s.0; value = s.1 }

pub returns-in-Err-signature_code : goal.returns-in-Err-signature_code
returns-in-Err-signature_code c =
    let e = c.check_response-c.ensures.value in
    let w = c.in-Ok.field-0 in
    let h =
    left c.args.key _ _ e w c.in-Ok.is c.body_of.ensures (error-is _ c.signature_code.ensures c.in-Err-signature_code.is) in
    let s =
    refused-clauses _ _ _ _ (h ∙ sym (left-code _ _ _ _ e w c.in-Ok.is))
    (error-refuses _ c.signature_code.ensures c.in-Err-signature_code.is) in
    record { verdict_value = s.0; value = s.1 }

pub returns-in-Ok-signature_code : goal.returns-in-Ok-signature_code
returns-in-Ok-signature_code c =
    let e = c.check_response-c.ensures.value in
    let w = c.in-Ok.field-0 in
    let h = left c.args.key _ _ e w c.in-Ok.is c.body_of.ensures refl in
    let s =
    check-clauses _ _ _ _
    (passed-still _ _ _ _ e w c.in-Ok.is
    (sym (ap (λ (x : Refusal). x.code) h) ∙ goes-on _ c.signature_code.ensures c.in-Ok-signature_code.is)) in
    record { verdict_value = s.0; value = s.1 }
