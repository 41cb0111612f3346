-- A packet and the fields of its message: a packet of fields passes where their message does, and bytes with none of
-- the codes are the packet of some fields.
use Prim.Native.Nat.{ℕ, ◌+◌, ◌*◌, ◌≤◌}
use mathlib.Core.Path.{◌≡◌, refl, sym, ap, ◌∙◌}
use mathlib.Core.List.{List, [], ◌∷◌}
use native.Mathlib.Omega.{arith}
use lib.ListN.{length}
use Rattle.laws.specs.Bytes.{Bytes}
use Rattle.laws.proofs.First.{says-0, is_last, none-quiet}
use Rattle.refusal.specs.Refusal.{passed, refusals, first}
use Rattle.refusal.specs.declared.Refusal.{Refusal}
use Rattle.wire_message.specs.Encode.{Field, Fields, Encoded, values, encode, value_among}
use Rattle.wire_message.specs.Rules.{message_code}
use Rattle.wire_message.specs.declared.rules.TagRule.{TagRule}
use Rattle.wire_message.specs.Values.{value_of}
use Rattle.wire_message.proofs.Codes.{frame-0, code-0}
use Rattle.wire_message.proofs.Decoded.{good-encoded}
use Rattle.wire_message.proofs.Encoded.{length-encoded, value-encoded}
use Rattle.wire_message.proofs.FieldRows.{AllHeld, passes-all}
use Rattle.wire_packet.specs.Good.{PacketFields}
use Rattle.wire_packet.specs.Packet.{packet_code, packet_of, body}
use Rattle.wire_packet.proofs.Packets.{length-packet, body-packed, packet-packed, packet-0, packet-made}

-- the message of the packet of fields is theirs
pub fields-body : (p : List ℕ) (fs : List Field) → PacketFields p fs → body p ≡ encode fs
fields-body p fs k = ap body k.is ∙ body-packed (encode fs)

-- what is read for a tag is its value among the fields
pub fields_value : (p : List ℕ) (fs : List Field) → PacketFields p fs → (tag : ℕ)
    → value_of (body p) tag ≡ value_among tag fs
fields_value p fs k tag = ap (λ (m : List ℕ). value_of m tag) (fields-body p fs k) ∙ value-encoded fs k.kept tag

-- a packet of fields passes where their message does
pub fields-pass : (f : List ℕ → Refusal) (p : List ℕ) (fs : List Field) → PacketFields p fs → f (encode fs) ≡ passed
    → first (packet_code p ∷ f (body p) ∷ []) ≡ passed
fields-pass f p fs k e =
    let l : length (encode fs) ≤ 1988 = omega (arith, ap length k.is ∙ length-packet (encode fs), k.most) in
    let head : packet_code p ≡ passed = ap packet_code k.is ∙ sym (packet-packed (encode fs) l) in
    let tail : f (body p) ≡ passed = ap f (fields-body p fs k) ∙ e in
    sym (says-0 refusals _ _ refl (none-quiet refusals head) (is_last refusals (sym tail)))

-- fields have a packet where it is not too long
pub fields-packed : (fs : List Field) (size : ℕ) → Fields fs → length (values fs) ≡ size → 8 * length fs + size ≤ 1988
    → PacketFields (packet_of (encode fs)) fs
fields-packed fs size ok e h =
    let l : length (packet_of (encode fs)) ≡ 12 + length (encode fs) = length-packet (encode fs) in
    let k : length (encode fs) ≡ 8 * length fs + length (values fs) = length-encoded fs ok in
    record { kept = ok; is = refl; least = omega arith; most = omega arith }

-- bytes with none of the codes 1 to 5 are the packet of some fields
pub fields-of : (p : List ℕ) → Bytes p → (packet_code p).code ≡ 0 → (a : Encoded (body p)) → PacketFields p a.fields
fields-of p bytes e a =
    let k = packet-0 p e in
    record { kept = a.kept; is = packet-made p bytes k ∙ ap packet_of a.is; least = k.least; most = k.most }

-- a message of bytes that keeps a table is that of some fields
pub encoded : (m : List ℕ) (rows : List TagRule) → Bytes m → (message_code m rows).code ≡ 0 → Encoded m
encoded m rows bytes e = let c = (code-0 m rows).0 e in good-encoded m bytes ((frame-0 m).1 (c.0, c.1))

-- and the fields keep the table
pub encoded-held : (m : List ℕ) (rows : List TagRule) → (message_code m rows).code ≡ 0 → (a : Encoded m)
    → AllHeld a.fields rows
encoded-held m rows e a =
    passes-all a.fields a.kept rows (ap (λ (s : List ℕ). (message_code s rows).code) (sym a.is) ∙ e)
