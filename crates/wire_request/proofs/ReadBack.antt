-- Reading our request gives its nonce and the SRV value of its server, by the reader's own definition.
use Rattle.refusal.specs.declared.Refusal.{Refusal}
use Rattle.std.specs.Prelude.{Ok, Result, Some}
use Prim.Native.Nat.{ℕ, zero, suc, ◌+◌, ◌%◌, ◌^◌, ◌<◌}
use mathlib.Core.Path.{◌≡◌, refl, sym, ap, ◌∙◌}
use mathlib.Core.Bool.{true, false}
use mathlib.Core.List.{List, [], ◌∷◌}
use native.Mathlib.Omega.{arith}
use borrow.Author.Tests.{eq-eqb}
use lib.ListN.{length, get_or, take}
use Rattle.hash.specs.Hashes.{srv_of}
use Rattle.hash.proofs.Lengths.{length-srv}
use Rattle.laws.specs.Any.{any}
use Rattle.laws.specs.Least.{least, somewhere}
use Rattle.laws.specs.Numbers.{le, le_bytes}
use Rattle.laws.proofs.First.{says-0, test-false, equal, is_last, is-empty, none-quiet}
use Rattle.wire_message.specs.Encode.{Field, Fields, field, starts, offsets, encode, among, value_among}
use Rattle.wire_message.specs.Rules.{versions_bad, value_bad}
use Rattle.wire_message.specs.Tags.{VER, SRV, NONC, TYPE}
use Rattle.wire_message.specs.Values.{value_of}
use Rattle.wire_message.proofs.Encoded.{has-encoded, value-encoded}
use Rattle.wire_message.proofs.FieldRows.{Keeps, encode-kept}
use Rattle.refusal.specs.Refusal.{answer, passed, shifted, refusals}
use Rattle.wire_packet.specs.Request.{request_message_code, request_code, srv_in, request_in, request_of}
use Rattle.wire_packet.specs.declared.Request.{Request}
use Rattle.wire_packet.specs.Tables.{request_table}
use Rattle.wire_packet.specs.Versions.{lacks_version}
use Rattle.wire_packet.specs.Packet.{body, body_start}
use Rattle.wire_packet.proofs.Packets.{body-packed, packet-packed}
use Rattle.wire_request.specs.Request.{request_fields, request_bytes}
use Rattle.wire_request.proofs.Answered.{Writes, done-front}
use Rattle.wire_request.proofs.RequestPieces.{length-message}

-- what reading a request to the server with this key, with this nonce, is to answer
abbrev pub asked : List ℕ → List ℕ → Request
asked key nonce = record { nonc = nonce; srv = Some (srv_of key) }

module _ (key nonce : List ℕ) (n32 : length nonce ≡ 32) where
  abbrev fs : List Field
  fs = request_fields key nonce

  -- the fields are such as a message may hold
  tag_word : (k : ℕ) → k < 5 → (field fs k).tag < 2 ^ 32
  tag_word zero h = omega arith
  tag_word (suc zero) h = omega arith
  tag_word (suc (suc zero)) h = omega arith
  tag_word (suc (suc (suc zero))) h = omega arith
  tag_word (suc (suc (suc (suc zero)))) h = omega arith
  tag_word (suc (suc (suc (suc (suc k))))) h = absurd (omega arith)

  tag-rise : (k : ℕ) → k + 1 < 5 → (field fs k).tag < (field fs (k + 1)).tag
  tag-rise zero h = omega arith
  tag-rise (suc zero) h = omega arith
  tag-rise (suc (suc zero)) h = omega arith
  tag-rise (suc (suc (suc zero))) h = omega arith
  tag-rise (suc (suc (suc (suc k)))) h = absurd (omega arith)

  whole-fours : (k : ℕ) → k < 5 → length (field fs k).value % 4 ≡ 0
  unfolding le_bytes
  whole-fours zero h = refl
  whole-fours (suc zero) h = rw (length-srv key)
  whole-fours (suc (suc zero)) h = rw n32
  whole-fours (suc (suc (suc zero))) h = refl
  whole-fours (suc (suc (suc (suc zero)))) h = refl
  whole-fours (suc (suc (suc (suc (suc k))))) h = absurd (omega arith)

  offsets_are : offsets fs ≡ 4 ∷ 36 ∷ 68 ∷ 72 ∷ []
  unfolding offsets starts le_bytes
  offsets_are = rw (length-srv key, n32)

  near : (k : ℕ) → k < 4 → get_or (4 ∷ 36 ∷ 68 ∷ 72 ∷ []) k 0 < 2 ^ 32
  near zero h = omega arith
  near (suc zero) h = omega arith
  near (suc (suc zero)) h = omega arith
  near (suc (suc (suc zero))) h = omega arith
  near (suc (suc (suc (suc k)))) h = absurd (omega arith)

  kept : Fields fs
  kept = record {
    one = omega arith;
    few = omega arith;
    word = tag_word;
    rise = tag-rise;
    fours = whole-fours;
    near = rw offsets_are near;
  }

  -- each row of a request's table is kept
  rows : (k : ℕ) → k < 4 → Keeps fs request_table k
  unfolding among value_among value_bad versions_bad any least somewhere le_bytes
  rows zero h = record { there = refl; right = refl }
  rows (suc zero) h = record { there = refl; right = rw (length-srv key) }
  rows (suc (suc zero)) h = record { there = refl; right = rw n32 }
  rows (suc (suc (suc zero))) h = record { there = refl; right = refl }
  rows (suc (suc (suc (suc k)))) h = absurd (omega arith)

  type-read : le 4 (value_of (encode fs) TYPE) 0 ≡ 0
  unfolding value_among le_bytes le
  type-read = rw (value-encoded fs kept TYPE)

  version-read : false ≡ lacks_version (value_of (encode fs) VER) 1
  unfolding value_among le_bytes le lacks_version somewhere least
  version-read = rw (value-encoded fs kept VER)

  message-good : passed ≡ request_message_code (encode fs)
  unfolding request_message_code
  message-good =
      says-0 refusals _ _ refl (none-quiet refusals (encode-kept fs kept request_table rows))
      (equal refusals (le 4 (value_of (encode fs) TYPE) 0) 0 _ _ type-read
      (test-false refusals _ _ version-read refl (is-empty refusals refl)))

  request-good : passed ≡ request_code (request_bytes key nonce)
  unfolding request_bytes request_code
  request-good =
      says-0 refusals _ _ (packet-packed (encode fs) (omega (arith, length-message key nonce n32))) refl
      (is_last refusals (ap (shifted body_start) (message-good ∙ ap request_message_code (sym (body-packed (encode fs))))))

  -- the request is a good one, and its NONC is the nonce
  pub request-passes : (request_code (request_bytes key nonce)).code ≡ 0
  request-passes = none-quiet refusals (sym request-good)

  pub nonce-reads : value_of (body (request_bytes key nonce)) NONC ≡ nonce
  unfolding request_bytes value_among
  nonce-reads = rw (body-packed, value-encoded fs kept NONC)

  -- what is written is read back
  pub read_back : request_of (request_bytes key nonce) ≡ Ok (asked key nonce)
  unfolding request_of answer request_in srv_in request_bytes among value_among
  read_back =
      rw (
        eq-eqb (request_code (request_bytes key nonce)).code 0 request-passes,
        body-packed,
        has-encoded fs kept SRV,
        value-encoded fs kept NONC,
        value-encoded fs kept SRV,
      )

  -- and so are the first n bytes of what `write_request` leaves, where it answers n
  pub front-reads-back : {r : Result ℕ Refusal} {d : List ℕ} (out : List ℕ) (n : ℕ)
      → Writes passed (request_bytes key nonce) out r d → r ≡ Ok n → request_of (take n d) ≡ Ok (asked key nonce)
  front-reads-back out n w e = ap request_of (done-front passed (request_bytes key nonce) out n w e) ∙ read_back
