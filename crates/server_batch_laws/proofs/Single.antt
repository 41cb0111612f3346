-- A server with two seeds answers a single packet that is meant for it and has 416 bytes or more: its call is one of
-- those of which the theorems speak.
use mathlib.Core.Bool.{true, false, not}
use mathlib.Core.List.{List}
use mathlib.Core.Path.{◌≡◌, refl, sym, ap, ◌∙◌}
use Prim.Native.Nat.{ℕ, ◌+◌, ◌*◌, ◌≤◌}
use native.Mathlib.Omega.{arith}
use borrow.Author.Tests.{ne_eqb, le-leb, le-ltb}
use lib.Dec.{eqb}
use lib.ListN.{length, take, drop}
use lib.Seq.{take-length}
use Rattle.ed25519_sign.specs.Signing.{public_of}
use Rattle.ed25519_sign_laws.proofs.Keys.{public-key}
use Rattle.ed25519_sign_laws.proofs.Parts.{parts-long}
use Rattle.laws.specs.Least.{least}
use Rattle.laws.proofs.Any.{any-not, any_none}
use Rattle.laws.proofs.First.{says-0, test-false, is_last, is-empty, none-quiet}
use Rattle.laws.proofs.Same.{same_refl}
use Rattle.refusal.specs.Refusal.{passed, shifted, refusals}
use Rattle.server_batch.specs.Answering.{other_key, count_wrong, room_short, keys_code, sizes_code, batch_code}
use Rattle.server_batch.specs.Batch.{packet_in, meant_for, meant_at, answered_at}
use Rattle.server_batch.proofs.Fits.{longest-within}
use Rattle.server_laws.specs.Answerable.{Delegates}
use Rattle.server_laws.proofs.Delegated.{cert-delegates}
use Rattle.server_laws.proofs.Exactly.{good-cert}
use Rattle.server_parts.proofs.Pieces.{length-cert}
use Rattle.server_response.specs.Refusing.{dele_of, mint_of, maxt_of, cert_code, midp_outside}
use Rattle.server_signed_laws.specs.Signer.{Signer, dele_for, delegation_for, cert_for, InTime}
use Rattle.tree.specs.Tree.{depth_of}
use Rattle.wire_message.proofs.Codes.{code-passed}
use Rattle.wire_packet.specs.Tables.{dele_table}
use Rattle.wire_request.specs.Texts.{delegation_context}
use Rattle.server_batch_laws.specs.Call.{Call, Taken, packet, least_of, answered}
use Rattle.server_batch_laws.specs.Single.{single}

-- a tree of one leaf is the leaf
one-deep : depth_of 1 ≡ 0
unfolding depth_of least
one-deep = refl

module _ (s : Signer) (midp radi : ℕ) (time : InTime s midp radi) where
  signed-long : length (delegation_for s) ≡ 64
  signed-long = parts-long s.long-term delegation_context (dele_for s)

  delegates : Delegates (cert_for s) (public_of s.delegate) s.mint s.maxt (delegation_for s) (dele_for s)
  delegates =
      cert-delegates (public_of s.delegate) s.mint s.maxt (delegation_for s) (public-key s.delegate).long
      signed-long (omega (arith, time.from, time.to, time.width)) time.width

  cert-long : length (cert_for s) ≡ 152
  cert-long =
      length-cert (public_of s.delegate) s.mint s.maxt (public-key s.delegate).long (delegation_for s)
      signed-long

  -- ---- the keys and the time

  cert-quiet : (cert_code (cert_for s)).code ≡ 0
  unfolding cert_code
  cert-quiet =
      let c = good-cert (cert_for s) delegates.good in
      none-quiet refusals
      (sym
      (says-0 refusals _ _ refl c.0
      (is_last refusals (sym (ap (shifted _) (code-passed (dele_of (cert_for s)) dele_table c.1))))))

  own_key : other_key s.delegate (cert_for s) ≡ false
  unfolding other_key
  own_key = rw delegates.key (ap not (same_refl (public_of s.delegate)))

  in-time : midp_outside midp (cert_for s) ≡ false
  unfolding midp_outside
  in-time =
      any-not _ (le-ltb midp (mint_of (cert_for s)) (omega (arith, delegates.from, time.from)))
      (any-not _ (le-ltb (maxt_of (cert_for s)) midp (omega (arith, delegates.to, time.to))) any_none)

  some-radius : eqb radi 0 ≡ false
  some-radius = ne_eqb radi 0 (λ (z : radi ≡ 0). omega (arith, time.some))

  keys-quiet : keys_code (cert_for s) s.delegate midp radi ≡ passed
  unfolding keys_code
  keys-quiet =
      sym
      (test-false refusals _ _ refl some-radius
      (says-0 refusals _ _ refl cert-quiet
      (test-false refusals _ _ refl own_key (test-false refusals _ _ refl in-time (is-empty refusals refl)))))

  -- ---- the packet

  module _ (srv request : List ℕ) (meant : meant_for srv request ≡ true) (long : 416 ≤ length request) where
    abbrev c : Call
    c = single s srv request midp radi

    abbrev n : ℕ
    n = length request

    enough : room_short 1 (length (cert_for s)) n n 32 n n 1 ≡ false
    unfolding room_short
    enough =
        any-not _ (le-ltb n (n * 1) (omega arith))
        (any-not _ (rw one-deep)
        (any-not _ (le-ltb n (n * 1) (omega arith))
        (any-not _ refl
        (any-not _ (le-ltb n (264 + 32 * depth_of 1 + length (cert_for s)) (omega (arith, one-deep, cert-long)))
        any_none))))

    sizes-quiet : sizes_code 1 (length (cert_for s)) n n 32 n n 1 ≡ passed
    unfolding sizes_code count_wrong
    sizes-quiet =
        sym
        (test-false refusals _ _ refl (any-not _ refl (any-not _ refl any_none))
        (test-false refusals _ _ refl enough (is-empty refusals refl)))

    -- The call refuses nothing,
    pub single-taken : Taken c
    unfolding batch_code
    single-taken =
        record {
          passes =
              none-quiet refusals
              (sym (says-0 refusals _ _ refl (none-quiet refusals keys-quiet) (is_last refusals (sym sizes-quiet))));
          midp = omega (arith, time.to, time.width);
          radi = time.narrow;
        }

    packet-is : packet c 0 ≡ request
    unfolding packet_in
    packet-is =
        let start : n * 0 ≡ 0 = omega arith in
        ap (λ (k : ℕ). take n (drop k request)) start ∙ take-length request

    meant-here : meant_at c.batch 0 ≡ true
    unfolding meant_at
    meant-here = rw (le-leb n n (omega arith), packet-is) meant

    -- and answers the packet.
    pub single-answered : answered c 0 ≡ true
    unfolding answered_at
    single-answered =
        let within = longest-within c.batch (length (cert_for s)) in
        let short : least_of c ≤ n = omega (arith, within, one-deep, cert-long) in
        rw (meant-here, le-leb (least_of c) n short)
