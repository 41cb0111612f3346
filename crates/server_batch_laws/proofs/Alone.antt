-- What the other packets of a batch change of an answer: nothing but its place in the tree, and what is signed of that.
use mathlib.Core.Bool.{true}
use mathlib.Core.Path.{◌≡◌, refl, sym, ◌∙◌}
use Prim.Native.Nat.{ℕ}
use native.Mathlib.Omega.{arith}
use borrow.Author.Tests.{ne_eqb}
use Rattle.server_batch.specs.Batch.{answer_at}
use Rattle.server_laws.specs.Answerable.{Typed}
use Rattle.server_laws.proofs.Granting.{Granted}
use Rattle.server_laws.proofs.Made.{srep-kept, response-packet}
use Rattle.server_laws.proofs.Passing.{srep-is}
use Rattle.server_parts.specs.Signed.{srep_fields, srep_bytes}
use Rattle.server_response.specs.Response.{Reply, response_fields, response_bytes}
use Rattle.server_response.proofs.Certified.{leads-siblings}
use Rattle.server_response.proofs.Replied.{lent-short, sized}
use Rattle.wire_message.specs.Encode.{among, value_among}
use Rattle.wire_message.specs.Tags.{SIG, PATH, SREP, ROOT, INDX}
use Rattle.wire_message.proofs.Codes.{message-good}
use Rattle.wire_message.proofs.Encoded.{has-encoded, value-encoded}
use Rattle.wire_packet.specs.Good.{PacketFields}
use Rattle.wire_packet.specs.Tables.{cert_table}
use Rattle.wire_packet.proofs.PacketFields.{fields-body, fields_value}
use Rattle.server_batch_laws.specs.Call.{Call, Taken, packet, answered, answer, reply_to}
use Rattle.server_batch_laws.specs.Claims.{Alike}
use Rattle.server_batch_laws.proofs.Answers.{typed, granted}

-- the packet of a response that is granted is that of its fields
response-fields : (a : Reply) → Typed a → Granted a → PacketFields (response_bytes a) (response_fields a)
response-fields a t g =
    let path = (leads-siblings _ a.indx a.path a.root g.leads).whole in
    let cert = (message-good a.cert cert_table _ refl g.certified).size.whole in
    response-packet a (sized a t.root t.signature g.request) (omega (arith, path)) cert
    (omega (arith, lent-short a.request g.request, g.short))

-- two that are granted, to the same request with the same MIDP, RADI and CERT
module _ (a b : Reply) (a-typed : Typed a) (b-typed : Typed b) (a-granted : Granted a) (b-granted : Granted b)
    (request : a.request ≡ b.request) (midp : a.midp ≡ b.midp) (radi : a.radi ≡ b.radi)
    (cert : a.cert ≡ b.cert) where
  values_same : (tag : ℕ) → (tag ≡ SIG → ⊥) → (tag ≡ PATH → ⊥) → (tag ≡ SREP → ⊥) → (tag ≡ INDX → ⊥)
      → value_among tag (response_fields a) ≡ value_among tag (response_fields b)
  unfolding value_among
  values_same tag s p r x =
      rw (
        ne_eqb SIG tag (λ e. s (sym e)),
        ne_eqb PATH tag (λ e. p (sym e)),
        ne_eqb SREP tag (λ e. r (sym e)),
        ne_eqb INDX tag (λ e. x (sym e)),
        request,
        cert,
      )

  srep-same : (tag : ℕ) → (tag ≡ ROOT → ⊥)
      → value_among tag (srep_fields a.root a.midp a.radi)
      ≡ value_among tag (srep_fields b.root b.midp b.radi)
  unfolding value_among
  srep-same tag r = rw (ne_eqb ROOT tag (λ e. r (sym e)), midp, radi)

  replies-alike : Alike (response_bytes a) (response_bytes b)
  unfolding among srep_bytes
  replies-alike =
      let k = response-fields a a-typed a-granted in
      let l = response-fields b b-typed b-granted in
      let u = srep-kept a.root a.midp a.radi a-typed.root in
      let v = srep-kept b.root b.midp b.radi b-typed.root in
      record {
        tags = λ tag.
            rw (fields-body _ _ k, fields-body _ _ l, has-encoded _ k.kept tag, has-encoded _ l.kept tag);
        values = λ tag s p r x. fields_value _ _ k tag ∙ values_same tag s p r x ∙ sym (fields_value _ _ l tag);
        srep-tags = λ tag.
            rw (srep-is a a-typed a-granted, srep-is b b-typed b-granted, has-encoded _ u tag, has-encoded _ v tag);
        srep-values = λ tag r.
            rw (
              srep-is a a-typed a-granted,
              srep-is b b-typed b-granted,
              value-encoded _ u tag,
              value-encoded _ v tag,
            ) (srep-same tag r);
      }

-- In two batches, whatever else is in them, the answers to the same packet differ in nothing but SIG, PATH, INDX and
-- ROOT, where MIDP, RADI and CERT are the same.
pub answers-alone : (c d : Call) → Taken c → Taken d → c.midp ≡ d.midp → c.radi ≡ d.radi → c.cert ≡ d.cert
    → (i j : ℕ) → answered c i ≡ true → answered d j ≡ true → packet c i ≡ packet d j
    → Alike (answer c i) (answer d j)
unfolding answer_at
answers-alone c d t u midp radi cert i j holds also request =
    replies-alike (reply_to c i) (reply_to d j) (typed c t i holds) (typed d u j also) (granted c t i holds)
    (granted d u j also) request midp radi cert
