-- Which packets of a batch are answered, as sentences: one that is answered is meant for the server; and whether one is
-- answered that is long enough does not hang on the others.
use mathlib.Core.Bool.{Bool, true, false, not, ◌||◌, true≢false}
use mathlib.Core.List.{List}
use mathlib.Core.Logic.{◌↔◌}
use mathlib.Core.Path.{◌≡◌, refl, sym, ap, ◌∙◌}
use Prim.Native.Nat.{ℕ, ◌+◌, ◌*◌, ◌≤◌}
use native.Mathlib.Omega.{arith}
use borrow.Author.Tests.{eq-eqb, le-leb}
use lib.ListN.{length, drop}
use Rattle.laws.specs.Bytes.{Bytes}
use Rattle.laws.specs.Same.{same}
use Rattle.laws.proofs.Bytes.{bytes_drop, bytes_take}
use Rattle.laws.proofs.Holds.{both}
use Rattle.laws.proofs.Same.{same_refl, same_true}
use Rattle.server_batch.specs.Batch.{count, size_at, packet_in, meant_for, meant_at, answered_at}
use Rattle.server_batch.proofs.Fits.{longest-within}
use Rattle.tree_build.specs.Leaves.{most}
use Rattle.wire_message.specs.Tags.{SRV}
use Rattle.wire_message.specs.Values.{has}
use Rattle.wire_packet.specs.Packet.{body}
use Rattle.wire_packet.specs.Request.{request_bad, request_code}
use Rattle.wire_packet.proofs.GoodRequest.{good-request, request-good}
use Rattle.wire_packet.proofs.RequestCodes.{lent-good}
use Rattle.server_batch_laws.specs.Call.{Call, packet, least_of, answered}
use Rattle.server_batch_laws.specs.Claims.{Meant}
use Rattle.server_batch_laws.proofs.Depths.{depth-ten}
use Rattle.server_batch_laws.proofs.Taken.{kept, meant-good}

not-bad : (q : List ℕ) → (request_code q).code ≡ 0 → request_bad q ≡ false
unfolding request_bad
not-bad q z = ap not (eq-eqb (request_code q).code 0 z)

module _ (srv q : List ℕ) where
  own-by : (t s : Bool) → (not t || s) ≡ true → t ≡ true → s ≡ true
  own-by true s e h = e
  own-by false s e h = absurd (true≢false (sym h))

  by-own : (t : Bool) (s : Bool) → (t ≡ true → s ≡ true) → (not t || s) ≡ true
  by-own true s f = f refl
  by-own false s f = refl

  -- the test says what the sentence does, of a packet of bytes
  pub meant-exactly : Bytes q → meant_for srv q ≡ true ↔ Meant srv q
  unfolding meant_for
  meant-exactly bytes = (
    λ e.
        let parts = both (not (request_bad q)) _ e in
        record {
          request = request-good q bytes (lent-good q refl (meant-good srv q e));
          own = λ h. let e = same_true _ _ (own-by (has (body q) SRV) _ parts.1 h) in cc;
        },
    λ m.
        let good = not-bad q (good-request q m.request) in
        let own = by-own (has (body q) SRV) _ (λ h. ap (λ (s : List ℕ). same s srv) (m.own h) ∙ same_refl srv) in
        rw (good, own),
  )

packet-bytes : (c : Call) (i : ℕ) → Bytes c.batch.packets → Bytes (packet c i)
unfolding packet_in
packet-bytes c i bytes =
    let start = c.batch.slot * i in
    bytes_take (drop start c.batch.packets) (bytes_drop c.batch.packets bytes start) (size_at c.batch i)

-- An answered packet is meant for the server.
pub answered-meant : (c : Call) (i : ℕ) → Bytes c.batch.packets → answered c i ≡ true
    → Meant c.batch.srv (packet c i)
answered-meant c i bytes holds =
    (meant-exactly c.batch.srv (packet c i) (packet-bytes c i bytes)).0 (kept c i holds).meant

-- One that is as long as the longest answer to a batch, with ten siblings, is answered exactly where it is meant for
-- the server and within its slot, whatever the others are.
module _ (c : Call) (i : ℕ) (bytes : Bytes c.batch.packets) (few : count c.batch ≤ most)
    (long : 264 + 320 + length c.cert ≤ size_at c.batch i) where
  not-longer : least_of c ≤ size_at c.batch i
  not-longer = omega (arith, longest-within c.batch (length c.cert), depth-ten (count c.batch) few)

  enough : size_at c.batch i ≤ c.batch.slot → Meant c.batch.srv (packet c i) → answered c i ≡ true
  unfolding answered_at meant_at
  enough inside m =
      rw (
        le-leb _ _ inside,
        (meant-exactly c.batch.srv (packet c i) (packet-bytes c i bytes)).1 m,
        le-leb _ _ not-longer,
      )

  pub answered-alone : answered c i ≡ true
      ↔ ((size_at c.batch i ≤ c.batch.slot) × Meant c.batch.srv (packet c i))
  answered-alone = (
    λ holds. ((kept c i holds).inside, answered-meant c i bytes holds),
    λ m. enough m.0 m.1,
  )
