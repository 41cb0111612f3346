-- A good response is one that has none of the codes 1 to 8: document 01's sentences hold exactly where the reader takes
-- the packet. The direction from the sentences to the code asks nothing of the packet.
use Prim.Native.Nat.{ℕ}
use mathlib.Core.Path.{◌≡◌, refl, sym, ap, ◌∙◌}
use mathlib.Core.Bool.{true, false}
use mathlib.Core.List.{List}
use mathlib.Core.Logic.{◌↔◌}
use borrow.Author.Tests.{eqb-true, not-false}
use Rattle.laws.specs.Bytes.{Bytes}
use Rattle.laws.specs.Numbers.{le}
use Rattle.laws.proofs.Bytes.{bytes_drop}
use Rattle.laws.proofs.First.{says-0, is_last, test-false, equal, is-empty, none-quiet, row-quiet}
use Rattle.laws.proofs.First.{test-quiet}
use Rattle.refusal.specs.Refusal.{passed, shifted, refusals}
use Rattle.wire_message.specs.Encode.{Field, Fields, encode, among, value_among}
use Rattle.wire_message.specs.Rules.{message_code, message}
use Rattle.wire_message.specs.declared.rules.TagRule.{TagRule}
use Rattle.wire_message.specs.Sentences.{Holds, HoldsMessage}
use Rattle.wire_message.specs.Tags.{VER, DELE, TYPE, SREP, VERS, CERT}
use Rattle.wire_message.specs.Values.{value_of}
use Rattle.wire_message.proofs.Edges.{value-bytes}
use Rattle.wire_message.proofs.Encoded.{value-encoded}
use Rattle.wire_message.proofs.FieldRows.{AllHeld, all-passes}
use Rattle.wire_packet.specs.Good.{GoodResponse}
use Rattle.wire_packet.specs.Packet.{body_start, body}
use Rattle.wire_packet.specs.Response.{srep, cert, dele, type_in, ver_in, shape_code, version_unlisted, response_message_code}
use Rattle.wire_packet.specs.Response.{response_code, srep_start, cert_start, dele_start}
use Rattle.wire_packet.specs.Tables.{root_table, srep_table, cert_table, dele_table}
use Rattle.wire_packet.specs.Versions.{lacks_version}
use Rattle.wire_packet.proofs.PacketFields.{fields_value, fields-pass, fields-of, encoded, encoded-held}
use Rattle.wire_packet.proofs.Versions.{version-test}

-- the value of a tag that is a message, as it is read
inner-value : (fs : List Field) → Fields fs → (tag : ℕ) (h : HoldsMessage fs tag)
    → value_of (encode fs) tag ≡ encode h.fields
inner-value fs ok tag h = value-encoded fs ok tag ∙ h.is

-- such a value passes where its fields keep the table,
pub inner-passes : (fs : List Field) → Fields fs → (tag : ℕ) (h : HoldsMessage fs tag) (rows : List TagRule)
    → AllHeld h.fields rows → message_code (value_of (encode fs) tag) rows ≡ passed
inner-passes fs ok tag h rows a = rw (inner-value fs ok tag h) (all-passes h.fields h.kept rows a)

-- and one that passes, of bytes, is a message whose fields keep it
pub record Inner (m : List ℕ) (fs : List Field) (tag : ℕ) (rows : List TagRule) : Type 0 where
  pub holds : HoldsMessage fs tag
  pub held : AllHeld holds.fields rows
  pub read : value_of m tag ≡ encode holds.fields

pub inner : (m : List ℕ) (fs : List Field) → Fields fs → m ≡ encode fs → Bytes m → (tag : ℕ) (rows : List TagRule)
    → among tag fs ≡ true → (message_code (value_of m tag) rows).code ≡ 0 → Inner m fs tag rows
inner m fs ok is bytes tag rows there e =
    let a = encoded (value_of m tag) rows (value-bytes m bytes tag) e in
    let v : value_of m tag ≡ value_among tag fs = ap (λ (s : List ℕ). value_of s tag) is ∙ value-encoded fs ok tag in
    record {
      holds = record { there = there; fields = a.fields; kept = a.kept; is = sym v ∙ a.is };
      held = encoded-held (value_of m tag) rows e a;
      read = a.is;
    }

module _ (p : List ℕ) where
  shape-encoded : (g : GoodResponse p) → shape_code (encode g.fields) ≡ passed
  unfolding shape_code
  shape-encoded g =
      let fs = g.fields in
      let ok = g.packet.kept in
      let srep-row : Holds fs SREP message = record { there = g.srep.there; right = record {} } in
      let cert-row : Holds fs CERT message = record { there = g.cert.there; right = record {} } in
      let dele-row : Holds g.cert.fields DELE message = record { there = g.dele.there; right = record {} } in
      let root : message_code (encode fs) root_table ≡ passed =
      all-passes fs ok root_table
      (g.sig, (g.nonc, (g.type, (g.path, (srep-row, (cert-row, (g.indx, record {}))))))) in
      let signed : message_code (value_of (encode fs) SREP) srep_table ≡ passed =
      inner-passes fs ok SREP g.srep srep_table (g.ver, (g.radi, (g.midp, (g.vers, (g.root, record {}))))) in
      let certified : message_code (value_of (encode fs) CERT) cert_table ≡ passed =
      inner-passes fs ok CERT g.cert cert_table (g.cert-sig, (dele-row, record {})) in
      let delegated : message_code (value_of (value_of (encode fs) CERT) DELE) dele_table ≡ passed =
      rw (inner-value fs ok CERT g.cert)
      (inner-passes g.cert.fields g.cert.kept DELE g.dele dele_table
      (g.pubk, (g.mint, (g.maxt, record {})))) in
      sym
      (says-0 refusals _ _ refl (none-quiet refusals root)
      (says-0 refusals _ _ refl (none-quiet refusals (ap (shifted (srep_start (encode fs))) signed))
      (says-0 refusals _ _ refl (none-quiet refusals (ap (shifted (cert_start (encode fs))) certified))
      (is_last refusals (sym (ap (shifted (dele_start (encode fs))) delegated))))))

  response-encoded : (g : GoodResponse p) → response_message_code (encode g.fields) ≡ passed
  unfolding response_message_code version_unlisted
  response-encoded g =
      let fs = g.fields in
      let ok = g.packet.kept in
      let within = value-encoded g.srep.fields g.srep.kept in
      let signed = inner-value fs ok SREP g.srep in
      sym
      (says-0 refusals _ _ refl (none-quiet refusals (shape-encoded g))
      (equal refusals (type_in (encode fs)) 1 _ _ (rw (value-encoded fs ok TYPE) g.type-is)
      (equal refusals (ver_in (encode fs)) 1 _ _ (rw (signed, within VER) g.version)
      (test-false refusals _ _ refl (rw (signed, within VERS, within VER) ((version-test _ _).1 g.listed))
      (is-empty refusals refl)))))

  pub good-response : GoodResponse p → (response_code p).code ≡ 0
  unfolding response_code
  good-response g =
      none-quiet refusals
      (fields-pass (λ m. shifted body_start (response_message_code m)) p g.fields g.packet
      (ap (shifted body_start) (response-encoded g)))

  pub response-good : Bytes p → (response_code p).code ≡ 0 → GoodResponse p
  unfolding response_code response_message_code shape_code version_unlisted
  response-good bytes e =
      let m = body p in
      let a = row-quiet refusals _ _ e in
      let b = row-quiet refusals _ _ (row-quiet refusals _ _ a.1).0 in
      let t = row-quiet refusals _ _ b.1 in
      let v = row-quiet refusals _ _ t.1 in
      let l = row-quiet refusals _ _ v.1 in
      let root = row-quiet refusals _ _ b.0 in
      let signed = row-quiet refusals _ _ root.1 in
      let certified = row-quiet refusals _ _ signed.1 in
      let delegated = row-quiet refusals _ _ certified.1 in
      let whole : Bytes m = bytes_drop p bytes 12 in
      let outer = encoded m root_table whole root.0 in
      let rows = encoded-held m root_table root.0 outer in
      let packet = fields-of p bytes a.0 outer in
      let srep = inner m outer.fields outer.kept outer.is whole SREP srep_table rows.1.1.1.1.0.there
      signed.0 in
      let chain = inner m outer.fields outer.kept outer.is whole CERT cert_table rows.1.1.1.1.1.0.there
      certified.0 in
      let key =
      inner (cert m) chain.holds.fields chain.holds.kept chain.read (value-bytes m whole CERT) DELE dele_table
      chain.held.1.0.there
      delegated.0 in
      let kind : le 4 (value_of m TYPE) 0 ≡ 1 = eqb-true _ _ (not-false _ (test-quiet refusals _ _ tt t.0)) in
      let version : le 4 (value_of (value_of m SREP) VER) 0 ≡ 1 =
      eqb-true _ _ (not-false _ (test-quiet refusals _ _ tt v.0)) in
      let listed : lacks_version (value_of (value_of m SREP) VERS) (le 4 (value_of (value_of m SREP) VER) 0) ≡ false =
      test-quiet refusals _ _ tt l.0 in
      let within = value-encoded srep.holds.fields srep.holds.kept in
      record {
        fields = outer.fields;
        packet = packet;
        sig = rows.0;
        nonc = rows.1.0;
        type = rows.1.1.0;
        path = rows.1.1.1.0;
        indx = rows.1.1.1.1.1.1.0;
        srep = srep.holds;
        ver = srep.held.0;
        radi = srep.held.1.0;
        midp = srep.held.1.1.0;
        vers = srep.held.1.1.1.0;
        root = srep.held.1.1.1.1.0;
        cert = chain.holds;
        cert-sig = chain.held.0;
        dele = key.holds;
        pubk = key.held.0;
        mint = key.held.1.0;
        maxt = key.held.1.1.0;
        type-is = rw (fields_value p outer.fields packet TYPE) at kind;
        version = rw (srep.read, within VER) at version;
        listed = (version-test _ _).0 (rw (srep.read, within VERS, within VER) at listed);
      }

  -- a response of bytes has none of the codes 1 to 8 exactly where it is good
  pub response-exactly : Bytes p → GoodResponse p ↔ ((response_code p).code ≡ 0)
  response-exactly bytes = (good-response, response-good bytes)

  -- what is read of a good response is what stands in its fields, and in those of SREP, CERT and DELE
  pub response-value : (g : GoodResponse p) (tag : ℕ) → value_of (body p) tag ≡ value_among tag g.fields
  response-value g tag = fields_value p g.fields g.packet tag

  pub srep-value : (g : GoodResponse p) (tag : ℕ) → value_of (srep (body p)) tag ≡ value_among tag g.srep.fields
  srep-value g tag =
      rw (response-value g SREP, g.srep.is) (value-encoded g.srep.fields g.srep.kept tag)

  pub cert-value : (g : GoodResponse p) (tag : ℕ) → value_of (cert (body p)) tag ≡ value_among tag g.cert.fields
  cert-value g tag =
      rw (response-value g CERT, g.cert.is) (value-encoded g.cert.fields g.cert.kept tag)

  pub dele-value : (g : GoodResponse p) (tag : ℕ) → value_of (dele (body p)) tag ≡ value_among tag g.dele.fields
  dele-value g tag =
      rw (cert-value g DELE, g.dele.is) (value-encoded g.dele.fields g.dele.kept tag)
