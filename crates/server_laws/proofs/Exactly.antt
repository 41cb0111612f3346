-- Which calls write a response: exactly those that requests P1 and P4 name, and so every one that could be answered.
use Rattle.refusal.specs.declared.Refusal.{Refusal}
use Rattle.std.specs.Prelude.{Ok, Result}
use mathlib.Core.Bool.{Bool, true, false, not}
use mathlib.Core.List.{List}
use mathlib.Core.Logic.{◌↔◌}
use mathlib.Core.Path.{◌≡◌, refl, sym, ap, ◌∙◌}
use Prim.Native.Nat.{ℕ, ◌≤◌}
use native.Mathlib.Omega.{arith}
use borrow.Author.Tests.{eq-eqb, ltb-false, not-false}
use lib.ListN.{length, take}
use Rattle.laws.specs.Bytes.{Bytes}
use Rattle.laws.proofs.Any.{any-parts}
use Rattle.laws.proofs.First.{none-quiet, row-quiet, test-quiet}
use Rattle.wire_message.specs.Rules.{message_code, message}
use Rattle.wire_message.specs.Sentences.{Holds}
use Rattle.wire_message.specs.Tags.{DELE}
use Rattle.wire_message.specs.Values.{value_of}
use Rattle.wire_message.proofs.Codes.{kept}
use Rattle.wire_message.proofs.FieldRows.{all-passes}
use Rattle.refusal.specs.Refusal.{refusals}
use Rattle.server_response.specs.Refusing.{dele_of, reply_code}
use Rattle.server_response.specs.Response.{Reply, response_bytes}
use Rattle.server_response.proofs.Replied.{sized}
use Rattle.tree.proofs.Exactly.{leads-exactly}
use Rattle.check_response.specs.Check.{check_code, agreement_code, path_leads, path_misses, time_outside}
use Rattle.wire_packet.specs.Packet.{body}
use Rattle.wire_packet.specs.Request.{request_bad, request_code}
use Rattle.wire_packet.specs.Response.{srep, cert, dele, midp_in, mint_in, maxt_in, shape_code, response_message_code, response_code}
use Rattle.wire_packet.specs.Tables.{cert_table, dele_table, srep_table}
use Rattle.wire_packet.proofs.GoodRequest.{good-request, request-good}
use Rattle.wire_packet.proofs.GoodResponse.{inner, inner-passes, response-good}
use Rattle.wire_packet.proofs.PacketFields.{encoded, encoded-held}
use Rattle.wire_packet.proofs.RequestCodes.{lent-good}
use Rattle.wire_request.specs.Answered.{answered}
use Rattle.wire_request.proofs.Answered.{Writes, done-exactly, done-front}
use Rattle.server_laws.specs.Answerable.{Typed, GoodCert, Answerable, Says}
use Rattle.server_laws.proofs.Granting.{Granted, granted-exactly}
use Rattle.server_laws.proofs.Shortest.{none-shorter}

-- ---- the value of CERT

module _ (value : List ℕ) where
  abbrev Codeless : Type 0
  Codeless = ((message_code value cert_table).code ≡ 0) × ((message_code (dele_of value) dele_table).code ≡ 0)

  pub good-cert : GoodCert value → Codeless
  good-cert g =
      let dele-row : Holds g.fields DELE message = record { there = g.dele.there; right = record {} } in
      let outer = all-passes g.fields g.kept cert_table (g.sig, (dele-row, record {})) in
      let within =
      inner-passes g.fields g.kept DELE g.dele dele_table (g.pubk, (g.mint, (g.maxt, record {}))) in (
        none-quiet refusals (ap (λ (m : List ℕ). message_code m cert_table) g.is ∙ outer),
        none-quiet refusals (ap (λ (m : List ℕ). message_code (value_of m DELE) dele_table) g.is ∙ within),
      )

  cert-good : Bytes value → Codeless → GoodCert value
  cert-good bytes c =
      let m = encoded value cert_table bytes c.0 in
      let rows = encoded-held value cert_table c.0 m in
      let d = inner value m.fields m.kept m.is bytes DELE dele_table rows.1.0.there c.1 in
      record {
        fields = m.fields;
        kept = m.kept;
        is = m.is;
        sig = rows.0;
        dele = d.holds;
        pubk = d.held.0;
        mint = d.held.1.0;
        maxt = d.held.1.1.0;
      }

-- ---- the call

lent : (q : List ℕ) → (request_code q).code ≡ 0 → request_bad q ≡ false
unfolding request_bad
lent q z = ap not (eq-eqb (request_code q).code 0 z)

module _ (a : Reply) where
  -- none of the codes before 19 is given exactly where a response can be written,
  pub answerable-exactly : Bytes a.request → Bytes a.cert → (reply_code a).code ≡ 0 ↔ Answerable a
  answerable-exactly q-bytes c-bytes = (
    λ z.
        let g = (granted-exactly a).0 z in
        record {
          request = request-good a.request q-bytes (lent-good a.request refl g.request);
          radius = omega (arith, g.radius);
          delegation = cert-good a.cert c-bytes (g.certified, g.delegated);
          leads = (leads-exactly _ _ _ _).0 g.leads;
          from = g.from;
          to = g.to;
          short = g.short;
        },
    λ s.
        let c = good-cert a.cert s.delegation in
        (granted-exactly a).1
        (record {
          request = lent a.request (good-request a.request s.request);
          radius = omega (arith, s.radius);
          certified = c.0;
          delegated = c.1;
          leads = (leads-exactly _ _ _ _).1 s.leads;
          from = s.from;
          to = s.to;
          short = s.short;
        }),
  )

  -- so that one is written exactly where it can be, and the buffer has room for it
  pub written-exactly : Bytes a.request → Bytes a.cert → (out : List ℕ) (n : ℕ)
      → answered (reply_code a) (response_bytes a) out ≡ Ok n
      ↔ (Answerable a × ((n ≡ length (response_bytes a)) × (n ≤ length out)))
  written-exactly q-bytes c-bytes out n =
      let exactly = done-exactly (reply_code a) (response_bytes a) out n in
      let can = answerable-exactly q-bytes c-bytes in
      (λ e. let f = exactly.0 e in (can.0 f.0, f.1), λ f. exactly.1 (can.1 f.0, f.1))

  -- and nothing is refused that could have been answered: where any response at all says the same, passes and is not
  -- longer than the request, none of the codes before 19 is given
  pub nothing-refused : Typed a → (p : List ℕ) → Bytes p → (d s : Bool) → (check_code a.request p d s).code ≡ 0
      → Says p a → length p ≤ length a.request → (reply_code a).code ≡ 0
  unfolding check_code agreement_code response_code response_message_code shape_code path_misses time_outside
  nothing-refused t p bytes d s z says short =
      let c14 = row-quiet refusals _ _ z in
      let c1 = row-quiet refusals _ _ c14.1 in
      let c8 = row-quiet refusals _ _ (row-quiet refusals _ _ c1.1).0 in
      let c9 = row-quiet refusals _ _ (row-quiet refusals _ _ c8.1).1 in
      let c10 = row-quiet refusals _ _ c9.1 in
      let c11 = row-quiet refusals _ _ c10.1 in
      let shape = row-quiet refusals _ _ (row-quiet refusals _ _ (row-quiet refusals _ _ c1.0).1).0 in
      let signed = row-quiet refusals _ _ (row-quiet refusals _ _ shape.0).1 in
      let certified = row-quiet refusals _ _ signed.1 in
      let delegated = row-quiet refusals _ _ certified.1 in
      let times = any-parts _ _ (test-quiet refusals _ _ tt c11.0) in
      let led : path_leads a.request (body p) ≡ true = not-false _ (test-quiet refusals _ _ tt c10.0) in
      let more = (kept (srep (body p)) srep_table signed.0 1 tt refl).more in
      let sizes = sized a t.root t.signature (test-quiet refusals _ _ tt c14.0) in
      let least = none-shorter p (response-good p bytes c1.0) a sizes says in
      (granted-exactly a).1
      (record {
        request = test-quiet refusals _ _ tt c14.0;
        radius = rw says.radi at more;
        certified = rw says.cert at certified.0;
        delegated = rw says.cert at delegated.0;
        leads = rw (says.indx, says.path, says.root) at led;
        from = rw (says.midp, says.cert) at (ltb-false (midp_in (body p)) (mint_in (body p)) times.0);
        to = rw (says.midp, says.cert) at (ltb-false (maxt_in (body p)) (midp_in (body p)) (any-parts _ _ times.1).0);
        short = omega (arith, least, short);
      })

  -- where `write_response` answers n, it is such a call, and the first n bytes of what it leaves are the response
  pub front-granted : {r : Result ℕ Refusal} {d : List ℕ} (out : List ℕ) (n : ℕ)
      → Writes (reply_code a) (response_bytes a) out r d → r ≡ Ok n
      → Granted a × (take n d ≡ response_bytes a)
  front-granted out n w e = (
    (granted-exactly a).0 ((done-exactly (reply_code a) (response_bytes a) out n).0 (sym w.0 ∙ e)).0,
    done-front (reply_code a) (response_bytes a) out n w e,
  )
