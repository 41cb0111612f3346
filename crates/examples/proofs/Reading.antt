-- A message that every table refuses with the same code has that code wherever it is read; and two such messages: one
-- whose frame has a code, and one with two equal tags.
use mathlib.Core.Path.{◌≡◌, refl, sym, ap, ◌∙◌}
use mathlib.Core.List.{List, [], ◌∷◌}
use Prim.Native.Nat.{ℕ, zero, suc, ◌+◌, ◌-◌, ◌≤◌, ◌<◌}
use native.Mathlib.Omega.{arith}
use lib.ListN.{length}
use Rattle.laws.proofs.First.{says-0, says-more, is_last, none-quiet}
use Rattle.refusal.specs.Refusal.{refusals, first, shifted}
use Rattle.refusal.specs.declared.Refusal.{Refusal}
use Rattle.wire_message.specs.Frame.{count, tag_at, frame_code}
use Rattle.wire_message.specs.Rules.{message_code}
use Rattle.wire_message.specs.declared.rules.TagRule.{TagRule}
use Rattle.wire_message.specs.Sentences.{TagsRise}
use Rattle.wire_message.proofs.Codes.{code-5}
use Rattle.wire_packet.specs.Packet.{packet_code, packet_of, body, body_start}
use Rattle.wire_packet.specs.Request.{request_code, request_message_code}
use Rattle.wire_packet.specs.Response.{response_code, response_message_code, shape_code}
use Rattle.wire_packet.specs.Tables.{request_table, root_table}
use Rattle.wire_packet.proofs.Packets.{length-packet, body-packed, packet-packed}
use Rattle.wire_packet.proofs.RequestCodes.{request-says}
use Rattle.wire_packet.proofs.ResponseCodes.{response-says}
use Rattle.examples.specs.Claims.{EqualTags, Refuses}

-- equal refusals have one number
code_of : {a b : Refusal} → a ≡ b → a.code ≡ b.code
code_of = ap (λ (r : Refusal). r.code)

-- the codes of a packet that is not too long are those of its message
message-next : (f : List ℕ → Refusal) (m : List ℕ) → length (packet_of m) ≤ 2000
    → f m ≡ first (packet_code (packet_of m) ∷ f (body (packet_of m)) ∷ [])
message-next f m h =
    let short : length m ≤ 1988 = omega (arith, length-packet m) in
    says-0 refusals _ _ refl (none-quiet refusals (sym (packet-packed m short)))
    (is_last refusals (ap f (sym (body-packed m))))

module _ (m : List ℕ) (code : ℕ) (some : 0 < code) (tabled : (rows : List TagRule) → (message_code m rows).code ≡ code) where
  refused : (rows : List TagRule) → (message_code m rows).code ≡ 0 → ⊥
  refused rows z = omega (arith, tabled rows)

  request-refused : length (packet_of m) ≤ 2000 → (request_code (packet_of m)).code ≡ code
  unfolding request_code request_message_code
  request-refused h =
      sym (code_of (message-next (λ s. shifted body_start (request_message_code s)) m h))
      ∙ sym (code_of (says-more refusals _ refl (refused request_table)))
      ∙ tabled request_table

  response-refused : length (packet_of m) ≤ 2000 → (response_code (packet_of m)).code ≡ code
  unfolding response_code response_message_code shape_code
  response-refused h =
      sym (code_of (message-next (λ s. shifted body_start (response_message_code s)) m h))
      ∙ sym (code_of (says-more refusals _ (says-more refusals _ refl (refused root_table)) (refused root_table)))
      ∙ tabled root_table

  refuses : Refuses m code
  refuses = record {
    by-table = tabled;
    in-request = λ h. request-says (packet_of m) ∙ request-refused h;
    in-response = λ h. response-says (packet_of m) ∙ response-refused h;
  }

-- a code of the frame comes before those of any table
pub frame-refuses : (m : List ℕ) (code : ℕ) → 0 < code → (frame_code m).code ≡ code → Refuses m code
unfolding message_code
frame-refuses m code some e =
    refuses m code some (λ rows. sym (code_of (says-more refusals _ refl (λ z. omega arith))) ∙ e)

-- where the tags rise, the tag at each place is below those behind it,
rises : (m : List ℕ) → TagsRise m → (i n : ℕ) → i + suc n < count m → tag_at m i < tag_at m (i + suc n)
rises m up i zero h = up i h
rises m up i (suc n) h =
    let next : i + suc n + 1 ≡ i + suc (suc n) = omega arith in
    let last : tag_at m (i + suc n) < tag_at m (i + suc n + 1) = up (i + suc n) (omega arith) in
    omega (arith, rises m up i n (omega arith), ap (tag_at m) next)

-- so that no two are equal
differ : (m : List ℕ) → EqualTags m → TagsRise m → ⊥
differ m t up =
    let n = t.j - suc t.i in
    let e : t.i + suc n ≡ t.j = omega (arith, t.order) in
    omega (arith, rises m up t.i n (omega (arith, t.inside)), ap (tag_at m) e, t.same)

pub equal-refuses : (m : List ℕ) → EqualTags m → Refuses m 5
equal-refuses m t = refuses m 5 (omega arith) (λ rows. (code-5 m rows).1 (t.good, differ m t))
