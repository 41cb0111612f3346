-- What a call that refuses nothing says of what it was lent, and what is known of a packet that it answers.
use mathlib.Core.Bool.{true, false}
use mathlib.Core.List.{List}
use mathlib.Core.Path.{◌≡◌}
use Prim.Native.Nat.{ℕ, ◌+◌, ◌*◌, ◌≤◌, ◌<◌}
use native.Mathlib.Nat.{mul-le-mul_left, mul-suc}
use native.Mathlib.Omega.{arith}
use borrow.Author.Tests.{eqb-false, leb-true, ltb-false, not-false, not-true}
use lib.ListN.{length, length-drop, get_or-eq_default}
use lib.Seq.{length-take-le}
use Rattle.ed25519_sign.specs.Signing.{public_of}
use Rattle.laws.proofs.Any.{any-parts}
use Rattle.laws.proofs.First.{row-quiet, test-quiet}
use Rattle.laws.proofs.Holds.{both}
use Rattle.laws.proofs.Same.{same_true}
use Rattle.laws.proofs.Split.{split}
use Rattle.refusal.specs.Refusal.{refusals}
use Rattle.server_batch.specs.Answering.{other_key, count_wrong, room_short, keys_code, sizes_code, batch_code}
use Rattle.server_batch.specs.Batch.{count, size_at, packet_in, meant_for, meant_at, longest, answered_at}
use Rattle.server_response.specs.Refusing.{dele_of, mint_of, maxt_of, cert_code, midp_outside}
use Rattle.tree.specs.Tree.{depth_of}
use Rattle.tree_build.specs.Leaves.{most}
use Rattle.wire_message.specs.Rules.{message_code}
use Rattle.wire_message.specs.Tags.{PUBK}
use Rattle.wire_message.specs.Values.{value_of}
use Rattle.wire_packet.specs.Request.{request_bad}
use Rattle.wire_packet.specs.Tables.{cert_table, dele_table}
use Rattle.server_batch_laws.specs.Call.{Call, Taken, packet, least_of, answered}

pub record Lent (c : Call) : Type 0 where
  pub radius : 0 < c.radi
  pub certified : (message_code c.cert cert_table).code ≡ 0
  pub delegated : (message_code (dele_of c.cert) dele_table).code ≡ 0
  pub key : public_of c.seed ≡ value_of (dele_of c.cert) PUBK
  pub from : mint_of c.cert ≤ c.midp
  pub to : c.midp ≤ maxt_of c.cert
  pub few : count c.batch ≤ most
  pub whole : c.batch.slot * count c.batch ≤ length c.batch.packets
  pub slots : c.room * count c.batch ≤ c.out
  pub room : 264 + 32 * depth_of (count c.batch) + length c.cert ≤ c.room

pub lent : (c : Call) → Taken c → Lent c
unfolding batch_code keys_code sizes_code cert_code other_key midp_outside count_wrong room_short
lent c t =
    let all = row-quiet refusals _ _ t.passes in
    let c7 = row-quiet refusals _ _ all.0 in
    let cert = row-quiet refusals _ _ c7.1 in
    let c35 = row-quiet refusals _ _ cert.1 in
    let c11 = row-quiet refusals _ _ c35.1 in
    let sizes = row-quiet refusals _ _ (row-quiet refusals _ _ all.1).0 in
    let outer = row-quiet refusals _ _ cert.0 in
    let times = any-parts _ _ (test-quiet refusals _ _ tt c11.0) in
    let counts = any-parts _ _ (test-quiet refusals _ _ tt sizes.0) in
    let rooms = any-parts _ _ (test-quiet refusals _ _ tt (row-quiet refusals _ _ sizes.1).0) in
    let slots = any-parts _ _ (any-parts _ _ rooms.1).1 in
    let last = any-parts _ _ (any-parts _ _ slots.1).1 in
    let some = eqb-false c.radi 0 (test-quiet refusals _ _ tt c7.0) in
    record {
      radius = omega (arith, some);
      certified = outer.0;
      delegated = (row-quiet refusals _ _ outer.1).0;
      key = same_true _ _ (not-false _ (test-quiet refusals _ _ tt c35.0));
      from = ltb-false _ _ times.0;
      to = ltb-false _ _ (any-parts _ _ times.1).0;
      few = ltb-false _ _ (any-parts _ _ counts.1).0;
      whole = ltb-false _ _ rooms.0;
      slots = ltb-false _ _ slots.0;
      room = ltb-false _ _ last.0;
    }

-- ---- a packet that is answered

-- it is meant for the server, within its slot, and long enough
pub record Kept (c : Call) (i : ℕ) : Type 0 where
  pub meant : meant_for c.batch.srv (packet c i) ≡ true
  pub inside : size_at c.batch i ≤ c.batch.slot
  pub long : least_of c ≤ size_at c.batch i

pub kept : (c : Call) (i : ℕ) → answered c i ≡ true → Kept c i
unfolding answered_at meant_at
kept c i holds =
    let parts = both _ _ holds in
    let within = both _ _ parts.0 in
    record { meant = within.1; inside = leb-true _ _ within.0; long = leb-true _ _ parts.1 }

-- there is such a packet,
pub there : (c : Call) (i : ℕ) → Kept c i → i < count c.batch
unfolding longest
there c i k =
    split (count c.batch) i
    (λ g. absurd (omega (arith, k.long, get_or-eq_default c.batch.lengths 0 g)))
    (λ g. g)

-- it has all its bytes,
pub packet-long : (c : Call) → Lent c → (i : ℕ) → Kept c i → length (packet c i) ≡ size_at c.batch i
unfolding packet_in
packet-long c l i k =
    let slot = c.batch.slot in
    let end : slot * i + slot ≤ length c.batch.packets =
    omega (arith, mul-suc slot i, mul-le-mul_left slot (there c i k), l.whole) in
    length-take-le _ _ (simp length-drop (omega (arith, k.inside, end)))

-- and is a good request
pub meant-good : (srv q : List ℕ) → meant_for srv q ≡ true → request_bad q ≡ false
unfolding meant_for
meant-good srv q e = not-true _ (both _ _ e).0
