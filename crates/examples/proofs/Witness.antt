-- There is something of which each row of the table speaks, so that no claim is empty: piles for examples 5 to 7,
-- batches for 8 and 9, requests and responses for 10 and 11, messages for 12.
use Rattle.std.specs.Prelude.{Err}
use mathlib.Core.Path.{◌≡◌, refl}
use mathlib.Core.Bool.{Bool, true, false, ◌&&◌}
use mathlib.Core.List.{List, [], ◌∷◌}
use Prim.Native.Nat.{ℕ, ◌+◌, ◌*◌, ◌^◌, ◌≤◌}
use native.Mathlib.Omega.{arith}
use lib.Dec.{T, ltb, leb, ltb→lt, leb→le}
use mir.Facts.{and_yes}
use lib.ListN.{length, replicate, length-replicate}
use Rattle.laws.specs.Any.{any}
use Rattle.laws.specs.First.{first_of, when_of}
use Rattle.laws.specs.Least.{least, somewhere}
use Rattle.laws.specs.Numbers.{le, le_bytes}
use Rattle.refusal.specs.Refusal.{refusal}
use Rattle.refusal.specs.declared.Refusal.{Refusal}
use Rattle.wire_message.specs.Encode.{words}
use Rattle.wire_message.specs.Frame.{offset, length_bad, count_bad, frame_code}
use Rattle.wire_message.specs.Rules.{message_code}
use Rattle.wire_message.specs.Tags.{NONC}
use Rattle.wire_message.proofs.Codes.{code-5}
use Rattle.wire_packet.specs.Blank.{zeros32}
use Rattle.wire_packet.specs.Packet.{packet_of}
use Rattle.wire_packet.proofs.Packets.{length-packet}
use Rattle.check_response.specs.Check.{answers_code}
use Rattle.examples.specs.Claims.{Climbs, Late, EqualTags}
use Rattle.examples.specs.Table.{table}
use Rattle.examples.specs.Spoken.{SomeBytes, SomePile, SomeExchange, EachSpeaks, Reply, verdict_on}
use Rattle.examples.specs.Spoken.{verdicts_on, all_fit}
use Rattle.examples.proofs.AreBytes.{AreBytes, bytes-test, bytes-zeros}
use Rattle.examples.proofs.MadeRequest.{request, ask-bytes}
use Rattle.examples.proofs.MadeResponse.{Answer, Sound, response, answer-bytes}
use Rattle.examples.proofs.Exchange.{climbs, late}
use Rattle.examples.proofs.MadePile.{some-pile}

-- ---- examples 5 to 7

-- a reply both of whose signatures verify, and record 1 of example 7, of which one may not
abbrev signed : ℕ → ℕ → Reply
signed midp radi = record { midp = midp; radi = radi; delegation = true; signature = true }

abbrev doubted : Bool → Bool → Reply
doubted d s = record { midp = 95; radi = 20; delegation = d; signature = s }

-- a pile for these replies
pile : (rs : List Reply) → T (all_fit rs && (ltb 0 (length rs) && leb (length rs) 16)) → SomePile (verdicts_on rs)
pile rs t =
    let u = and_yes (all_fit rs) (ltb 0 (length rs) && leb (length rs) 16) t in
    let v = and_yes (ltb 0 (length rs)) (leb (length rs) 16) u.1 in
    some-pile rs u.0 (ltb→lt 0 (length rs) v.0) (leb→le (length rs) 16 v.1)

-- ---- examples 10 and 11

-- a response with this INDX, so many siblings, MIDP and MAXT
abbrev pub says : ℕ → ℕ → ℕ → ℕ → Answer
says i siblings midp maxt =
    record { nonce = zeros32; siblings = siblings; indx = i; midp = midp; radi = 1; maxt = maxt }

-- small numbers fit
small : (i siblings midp maxt : ℕ) → T (leb siblings 32 && ltb (i + midp + maxt) (2 ^ 32))
    → Sound (says i siblings midp maxt)
small i siblings midp maxt t =
    let u = and_yes (leb siblings 32) (ltb (i + midp + maxt) (2 ^ 32)) t in
    let few = leb→le siblings 32 u.0 in
    let low = ltb→lt (i + midp + maxt) (2 ^ 32) u.1 in
    record {
      nonce-long = refl;
      few = few;
      indx-fits = omega arith;
      midp-fits = omega arith;
      radi-fits = omega arith;
      radi-more = omega arith;
      maxt-fits = omega arith;
    }

-- two responses each
pub spoken-of :
    Climbs 1 0 (request zeros32) (response (says 1 0 77 77))
    × Climbs 2 1 (request zeros32) (response (says 2 1 77 77))
    × Late 0 (request zeros32) (response (says 0 0 77 77))
    × Late 1 (request zeros32) (response (says 0 0 78 77))
spoken-of = (
  climbs (says 1 0 77 77) (small 1 0 77 77 tt),
  climbs (says 2 1 77 77) (small 2 1 77 77 tt),
  late (says 0 0 77 77) (small 0 0 77 77 tt) 0 refl refl refl,
  late (says 0 0 78 77) (small 0 0 78 77 tt) 1 refl refl refl,
)

-- they are bytes
exchange : (P : List ℕ → List ℕ → Type 0) {a : Answer} → Sound a → AreBytes a.nonce
    → P (request a.nonce) (response a) → SomeExchange P
exchange P {a} ok b h = record {
  it = request a.nonce;
  bytes = (ask-bytes a.nonce ok.nonce-long b).each;
  holds = record { it = response a; bytes = (answer-bytes a ok b).each; holds = h };
}

-- ---- the others

-- so many leaves
leaves : (n : ℕ) → SomeBytes (λ s. length s ≡ 32 * n)
leaves n = record {
  it = replicate (32 * n) 0;
  bytes = (bytes-zeros (32 * n)).each;
  holds = length-replicate (32 * n) 0;
}

-- a message with two equal tags: N is 2, the offset 4, NONC stands twice, and the two values have four bytes each
abbrev twice : List ℕ
twice = words (2 ∷ 4 ∷ NONC ∷ NONC ∷ 0 ∷ 0 ∷ [])

some-twice : SomeBytes (λ m. EqualTags m × (length (packet_of m) ≤ 2000))
unfolding first_of when_of any least somewhere le le_bytes words message_code frame_code length_bad count_bad offset
some-twice = record {
  it = twice;
  bytes = (bytes-test twice tt).each;
  holds = (
    record {
      good = ((code-5 twice []).0 refl).0;
      i = 0;
      j = 1;
      order = omega arith;
      inside = omega arith;
      same = refl;
    },
    omega (arith, length-packet twice),
  );
}

-- ---- the table

-- one row's, and those of the rows behind it
infixr 70 ◌then◌
◌then◌ : {A B : Type 0} → A → B → A × B
a then b = (a, b)

-- every row speaks of something, where an answer refuses record 1 of example 7
speaks : (d s : Bool) (why : Refusal) → verdict_on (doubted d s) ≡ Err why → EachSpeaks (table why)
unfolding answers_code first_of when_of
speaks d s why e =
    -- 1 to 4
    tt
    then tt
    then (tt, tt)
    then tt
    -- 5 to 7
    then pile (signed 1000 10 ∷ signed 1500 10 ∷ signed 1495 1 ∷ signed 1400 10 ∷ []) tt
    then pile (signed 100 1 ∷ signed 90 1 ∷ signed 80 1 ∷ []) tt
    then (
      pile (signed 100 1 ∷ signed 95 20 ∷ signed 80 1 ∷ []) tt,
      rw (← e) (pile (signed 100 1 ∷ doubted d s ∷ signed 80 1 ∷ []) tt),
    )
    -- 8 and 9
    then (leaves 1, leaves 1)
    then (leaves 3, (leaves 3, leaves 3))
    -- 10 and 11
    then (
      exchange (Climbs 1 0) (small 1 0 77 77 tt) (bytes-zeros 32) spoken-of.0,
      exchange (Climbs 2 1) (small 2 1 77 77 tt) (bytes-zeros 32) spoken-of.1,
    )
    then (
      exchange (Late 0) (small 0 0 77 77 tt) (bytes-zeros 32) spoken-of.2,
      exchange (Late 1) (small 0 0 78 77 tt) (bytes-zeros 32) spoken-of.3,
    )
    -- 12
    then (((bytes-zeros 4).each, omega (arith, length-packet (replicate 4 0))), some-twice)
    then tt

-- by 12, and by 13
pub each-speaks : EachSpeaks (table (refusal 12)) × EachSpeaks (table (refusal 13))
unfolding answers_code first_of when_of
each-speaks = (speaks false true (refusal 12) refl, speaks true false (refusal 13) refl)
