-- A good request is one that has none of the codes 1 to 8: document 01's sentences hold exactly where the reader takes
-- the packet. The direction from the sentences to the code asks nothing of the packet.
use Prim.Native.Nat.{ℕ}
use mathlib.Core.Path.{◌≡◌, refl, sym, ap}
use mathlib.Core.Bool.{false}
use mathlib.Core.List.{List}
use mathlib.Core.Logic.{◌↔◌}
use borrow.Author.Tests.{eqb-true, not-false}
use Rattle.laws.specs.Bytes.{Bytes}
use Rattle.laws.specs.Numbers.{le}
use Rattle.laws.proofs.Bytes.{bytes_drop}
use Rattle.laws.proofs.First.{says-0, test-false, equal, is-empty, none-quiet, row-quiet, test-quiet}
use Rattle.refusal.specs.Refusal.{passed, shifted, refusals}
use Rattle.wire_message.specs.Encode.{encode, value_among}
use Rattle.wire_message.specs.Tags.{VER, TYPE}
use Rattle.wire_message.specs.Values.{value_of}
use Rattle.wire_message.proofs.Encoded.{value-encoded}
use Rattle.wire_message.proofs.FieldRows.{AllHeld, all-passes}
use Rattle.wire_packet.specs.Good.{GoodRequest}
use Rattle.wire_packet.specs.Packet.{body_start, body}
use Rattle.wire_packet.specs.Request.{request_message_code, request_code}
use Rattle.wire_packet.specs.Tables.{request_table}
use Rattle.wire_packet.specs.Versions.{lacks_version}
use Rattle.wire_packet.proofs.Versions.{version-test}
use Rattle.wire_packet.proofs.PacketFields.{fields_value, fields-pass, fields-of, encoded, encoded-held}

module _ (p : List ℕ) where
  request-encoded : (g : GoodRequest p) → request_message_code (encode g.fields) ≡ passed
  unfolding request_message_code
  request-encoded g =
      let fs = g.fields in
      let ok = g.packet.kept in
      let rows : AllHeld fs request_table = (g.ver, (g.srv, (g.nonc, (g.type, record {})))) in
      sym
      (says-0 refusals _ _ refl (none-quiet refusals (all-passes fs ok request_table rows))
      (equal refusals (le 4 (value_of (encode fs) TYPE) 0) 0 _ _ (rw (value-encoded fs ok TYPE) g.type-is)
      (test-false refusals _ _ refl (rw (value-encoded fs ok VER) ((version-test _ 1).1 g.version))
      (is-empty refusals refl))))

  pub good-request : GoodRequest p → (request_code p).code ≡ 0
  unfolding request_code
  good-request g = none-quiet refusals
      (fields-pass (λ m. shifted body_start (request_message_code m)) p g.fields g.packet
      (ap (shifted body_start) (request-encoded g)))

  pub request-good : Bytes p → (request_code p).code ≡ 0 → GoodRequest p
  unfolding request_code request_message_code
  request-good bytes e =
      let a = row-quiet refusals _ _ e in
      let b = row-quiet refusals _ _ (row-quiet refusals _ _ a.1).0 in
      let c = row-quiet refusals _ _ b.1 in
      let d = row-quiet refusals _ _ c.1 in
      let m = encoded (body p) request_table (bytes_drop p bytes 12) b.0 in
      let rows = encoded-held (body p) request_table b.0 m in
      let packet = fields-of p bytes a.0 m in
      let kind : le 4 (value_of (body p) TYPE) 0 ≡ 0 = eqb-true _ _ (not-false _ (test-quiet refusals _ _ tt c.0)) in
      let holds : lacks_version (value_of (body p) VER) 1 ≡ false = test-quiet refusals _ _ tt d.0 in
      record {
        fields = m.fields;
        packet = packet;
        ver = rows.0;
        nonc = rows.1.1.0;
        type = rows.1.1.1.0;
        srv = rows.1.0;
        type-is = rw (fields_value p m.fields packet TYPE) at kind;
        version = (version-test _ 1).0 (rw (fields_value p m.fields packet VER) at holds);
      }

  -- a request of bytes has none of the codes 1 to 8 exactly where it is good
  pub request-exactly : Bytes p → GoodRequest p ↔ ((request_code p).code ≡ 0)
  request-exactly bytes = (good-request, request-good bytes)

  -- what is read of a good request is what stands in its fields
  pub request-value : (g : GoodRequest p) (tag : ℕ) → value_of (body p) tag ≡ value_among tag g.fields
  request-value g tag = fields_value p g.fields g.packet tag
