-- A packet that is made of a message has none of the codes 1 to 3, and its message is that one; and a packet of bytes
-- that has none of them is made of its message.
use Prim.Native.Nat.{ℕ, ◌+◌, ◌-◌, ◌≤◌}
use mathlib.Core.Path.{◌≡◌, refl, sym, ap, ap₂, ◌∙◌}
use mathlib.Core.Bool.{false, not}
use mathlib.Core.List.{List, ◌++◌}
use native.Mathlib.Omega.{arith}
use borrow.Author.Tests.{eq-eqb, eqb-true, ltb-false, not-false}
use lib.ListN.{length, take, drop, length-append, length-drop, take-append-drop}
use lib.Seq.{drop-drop}
use Rattle.laws.specs.Bytes.{Bytes}
use Rattle.laws.specs.Numbers.{le, le_bytes}
use Rattle.laws.specs.Same.{same}
use Rattle.laws.proofs.First.{test-false, at_most, is-empty, row-quiet, test-quiet}
use Rattle.laws.proofs.Numbers.{le-behind, le-le_bytes, length-le_bytes, le_bytes-le}
use Rattle.laws.proofs.Same.{same_true}
use Rattle.refusal.specs.Refusal.{passed, refusals}
use Rattle.wire_packet.specs.Packet.{mark, mark_wrong, length_wrong, packet_code, packet_of, body}

module _ (m : List ℕ) where
  pub length-packet : length (packet_of m) ≡ 12 + length m
  unfolding packet_of
  length-packet = simp (length-append, length-le_bytes) (omega arith)

  pub body-packed : body (packet_of m) ≡ m
  unfolding packet_of le_bytes
  body-packed = refl

  mark-right : false ≡ mark_wrong (packet_of m)
  unfolding packet_of mark_wrong same
  mark-right = refl

  -- the length field is read as it was written
  field-read : length m ≤ 1988 → le 4 (packet_of m) 8 ≡ length m
  unfolding packet_of
  field-read h = le-behind 4 mark (le_bytes 4 (length m) ++ m) 0 ∙ le-le_bytes 4 (length m) m (omega arith)

  length-right : length m ≤ 1988 → false ≡ length_wrong (packet_of m)
  unfolding length_wrong
  length-right h =
      let same : le 4 (packet_of m) 8 ≡ length (packet_of m) - 12 = omega (arith, field-read h, length-packet) in
      sym (ap not (eq-eqb _ _ same))

  -- the packet is good where it has at most 2,000 bytes
  pub packet-packed : length m ≤ 1988 → passed ≡ packet_code (packet_of m)
  unfolding packet_code
  packet-packed h =
      let l = length-packet in
      at_most refusals (length (packet_of m)) 12 _ _ (omega arith)
      (at_most refusals 2000 (length (packet_of m)) _ _ (omega arith)
      (test-false refusals _ _ mark-right refl
      (test-false refusals _ _ (length-right h) refl (is-empty refusals refl))))

-- what none of the codes 1 to 3 says of a packet
pub record Packet (p : List ℕ) : Type 0 where
  pub least : 12 ≤ length p
  pub most : length p ≤ 2000
  pub marked : take 8 p ≡ mark
  pub counted : le 4 p 8 ≡ length p - 12

pub packet-0 : (p : List ℕ) → (packet_code p).code ≡ 0 → Packet p
unfolding packet_code mark_wrong length_wrong
packet-0 p e =
    let a = row-quiet refusals _ _ e in
    let b = row-quiet refusals _ _ a.1 in
    let c = row-quiet refusals _ _ b.1 in
    let d = row-quiet refusals _ _ c.1 in
    record {
      least = ltb-false _ _ (test-quiet refusals _ _ tt a.0);
      most = ltb-false _ _ (test-quiet refusals _ _ tt b.0);
      marked = same_true _ _ (not-false _ (test-quiet refusals _ _ tt c.0));
      counted = eqb-true _ _ (not-false _ (test-quiet refusals _ _ tt d.0));
    }

-- such a packet, of bytes, is made of its message
pub packet-made : (p : List ℕ) → Bytes p → Packet p → p ≡ packet_of (body p)
unfolding packet_of
packet-made p bytes k =
    let n : length (drop 12 p) ≡ le 4 p 8 = length-drop 12 p ∙ sym k.counted in
    let field : le_bytes 4 (le 4 p 8) ≡ take 4 (drop 8 p) = le_bytes-le p bytes 4 8 k.least in
    let rest : drop 12 p ≡ drop 4 (drop 8 p) = sym (drop-drop 4 8 p) in
    let both : List ℕ → List ℕ → List ℕ = λ x y. x ++ y in
    sym (take-append-drop 8 p)
    ∙ ap₂ both k.marked
    (sym (take-append-drop 4 (drop 8 p)) ∙ ap₂ both (sym field ∙ ap (le_bytes 4) (sym n)) (sym rest))
