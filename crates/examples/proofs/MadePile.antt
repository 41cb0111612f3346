-- A pile for any 1 to 16 replies: the verdict on each record is the reply's, and each after the first is linked.
-- No hash is computed.
use mathlib.Core.Path.{◌≡◌, refl, sym, ap, ◌∙◌}
use mathlib.Core.Bool.{Bool, true, ◌&&◌}
use mathlib.Core.List.{List, [], ◌∷◌}
use Prim.Native.Nat.{ℕ, zero, suc, ◌-◌, ◌^◌, ◌≤◌, ◌<◌}
use native.Mathlib.Nat.{le_of_suc-le-suc}
use native.Mathlib.Omega.{arith}
use lib.Dec.{T, ltb, ltb→lt}
use lib.ListN.{length}
use mir.Facts.{and_yes}
use Rattle.laws.proofs.First.{before-false}
use Rattle.refusal.specs.Refusal.{refusals}
use Rattle.hash.specs.Hashes.{link_of}
use Rattle.hash.proofs.Lengths.{length-H32}
use Rattle.wire_packet.specs.Blank.{zeros32}
use Rattle.check_response.specs.Check.{answers_code, verdict_by}
use Rattle.pile.specs.Pile.{records_in, record_at}
use Rattle.pile.specs.Valid.{record_code, record_verdict}
use Rattle.pile.specs.Links.{linked_of}
use Rattle.pile.specs.Meaning.{GoodPile, IsLinked, LinkReadable}
use Rattle.pile.proofs.Exactly.{judged-at, readable-link-exactly}
use Rattle.pile_runs.specs.Convict.{verdict_in}
use Rattle.pile_runs.proofs.SamePile.{alike_same}
use Rattle.pile_report.specs.Report.{judged}
use Rattle.examples.specs.Claims.{◌±◌}
use Rattle.examples.specs.Spoken.{SomePile, Reply, verdict_on, verdicts_on, fits, all_fit}
use Rattle.examples.proofs.AreBytes.{AreBytes, bytes-zeros, bytes_link}
use Rattle.examples.proofs.MadeRequest.{request, ask-packet, ask-bytes, ask-good}
use Rattle.examples.proofs.MadeResponse.{Answer, Sound, response, answer-packet, answer-bytes}
use Rattle.examples.proofs.Exchange.{request-nonce, checked, window-is}
use Rattle.examples.proofs.MadeRecord.{made_record, made_bytes, InAreas, length-record, rand-of, request-length}
use Rattle.examples.proofs.MadeRecord.{response-length, request-of, response-of, record-good}
use Rattle.examples.proofs.Piled.{pile_of, length-pile, record-at, pile-bytes, answers_of, reply, length-answers}
use Rattle.examples.proofs.Piled.{answer-small, answers-said}

-- ---- reply k, its verdict and its numbers

length-verdicts : (rs : List Reply) → length (verdicts_on rs) ≡ length rs
length-verdicts [] = refl
length-verdicts (r ∷ rs) = ap suc (length-verdicts rs)

verdict-at : (rs : List Reply) (k : ℕ) → k < length rs → verdict_in (verdicts_on rs) k ≡ verdict_on (reply rs k)
verdict-at (r ∷ rs) zero h = refl
verdict-at (r ∷ rs) (suc k) h = verdict-at rs k (le_of_suc-le-suc h)
verdict-at [] k h = absurd (omega arith)

fits-at : (rs : List Reply) → T (all_fit rs) → (k : ℕ) → T (fits (reply rs k))
fits-at [] t k = tt
fits-at (r ∷ rs) t zero = (and_yes (fits r) (all_fit rs) t).0
fits-at (r ∷ rs) t (suc k) = fits-at rs (and_yes (fits r) (all_fit rs) t).1 k

-- ---- the nonces

-- the response with this nonce, by a reply
abbrev answer : List ℕ → Reply → Answer
answer nonce r =
    record { nonce = nonce; siblings = 0; indx = 0; midp = r.midp; radi = r.radi; maxt = 2 ^ 64 - 1 }

-- NONC of record k: zeros in the first, and in each other what links it to the one before
unfoldable nonce_at : List Reply → ℕ → List ℕ
nonce_at rs zero = zeros32
nonce_at rs (suc k) = link_of (response (answer (nonce_at rs k) (reply rs k))) zeros32

length-nonce : (rs : List Reply) (k : ℕ) → length (nonce_at rs k) ≡ 32
unfolding nonce_at link_of
length-nonce rs zero = refl
length-nonce rs (suc k) = length-H32 _

nonce-bytes : (rs : List Reply) (k : ℕ) → AreBytes (nonce_at rs k)
unfolding nonce_at
nonce-bytes rs zero = bytes-zeros 32
nonce-bytes rs (suc k) = bytes_link _ _

module _ (rs : List Reply) (fit : T (all_fit rs)) where
  -- ---- the records

  -- what the response of record k says, its request, its response, and the record
  abbrev answer_at : ℕ → Answer
  answer_at k = answer (nonce_at rs k) (reply rs k)

  abbrev q : ℕ → List ℕ
  q k = request (nonce_at rs k)

  abbrev p : ℕ → List ℕ
  p k = response (answer_at k)

  abbrev r : ℕ → List ℕ
  r k = made_record (q k) (p k)

  sound : (k : ℕ) → Sound (answer_at k)
  sound k =
      let r = reply rs k in
      let f = and_yes (ltb r.midp (2 ^ 64)) (ltb r.radi (2 ^ 32) && ltb 0 r.radi) (fits-at rs fit k) in
      let g = and_yes (ltb r.radi (2 ^ 32)) (ltb 0 r.radi) f.1 in
      record {
        nonce-long = length-nonce rs k;
        few = omega arith;
        indx-fits = omega arith;
        midp-fits = ltb→lt _ _ f.0;
        radi-fits = ltb→lt _ _ g.0;
        radi-more = ltb→lt _ _ g.1;
        maxt-fits = omega arith;
      }

  short : (k : ℕ) → InAreas (q k) (p k)
  short k = record {
    request = (ask-packet (nonce_at rs k) (length-nonce rs k)).most;
    response = (answer-packet (answer_at k) (sound k)).most;
  }

  long : (k : ℕ) → length (r k) ≡ 4096
  long k = length-record (short k)

  bytes : (k : ℕ) → AreBytes (r k)
  bytes k =
      made_bytes (q k) (p k) (ask-bytes (nonce_at rs k) (length-nonce rs k) (nonce-bytes rs k))
      (answer-bytes (answer_at k) (sound k) (nonce-bytes rs k))

  -- the verdict on record k, by its answers
  record-says : (k : ℕ) (d s : Bool)
      → record_verdict (r k) d s ≡ verdict_by (answers_code d s) ((reply rs k).midp ± (reply rs k).radi)
  unfolding record_verdict record_code
  record-says k d s =
      rw (
        before-false refusals _ _ _ (record-good (short k)),
        request-of (short k),
        response-of (short k),
        checked (answer_at k) (sound k) refl refl (omega (arith, (sound k).midp-fits)) d s,
        window-is (answer_at k) (sound k),
      )

  -- each after the first can be read, and is linked
  readable : (k : ℕ) → LinkReadable (r k) (r (suc k))
  readable k = record {
    request-fits = rw (request-length (short (suc k))) (short (suc k)).request;
    response-fits = rw (response-length (short k)) (short k).response;
    request = rw (request-of (short (suc k))) (ask-good (nonce_at rs (suc k)) (length-nonce rs (suc k)));
  }

  is-linked : (k : ℕ) → IsLinked (r k) (r (suc k))
  unfolding nonce_at
  is-linked k =
      rw (request-of (short (suc k)), response-of (short k), rand-of (short (suc k)))
      (request-nonce (nonce_at rs (suc k)) (length-nonce rs (suc k)))

  -- ---- the pile

  module _ (one : 1 ≤ length rs) (few : length rs ≤ 16) where
    abbrev pile : List ℕ
    pile = pile_of r (length rs)

    many : records_in pile ≡ length rs
    many = omega (arith, length-pile r long (length rs))

    here : (k : ℕ) → k < length rs → record_at pile k ≡ r k
    here = record-at r long (length rs)

    good : GoodPile pile (answers_of rs)
    good = record {
      pile-whole = record {
        exact = omega (arith, length-pile r long (length rs));
        from = omega (arith, many);
        to = omega (arith, many);
      };
      two = omega (arith, length-answers rs, many);
      one_at_most = λ i h. answer-small rs i;
    }

    same : (k : ℕ) → k < length rs → judged pile (answers_of rs) k ≡ verdict_in (verdicts_on rs) k
    same k h =
        let said = answers-said rs k in
        judged-at pile (answers_of rs) k good (omega (arith, many))
        ∙ rw (here k h, said.0, said.1) (record-says k _ _)
        ∙ sym (verdict-at rs k h)

    linked : (k : ℕ) → 0 < k → k < length rs → linked_of pile k ≡ true
    linked (suc k) z h =
        let e : suc k - 1 ≡ k = omega arith in
        let b : record_at pile (suc k - 1) ≡ r k = ap (record_at pile) e ∙ here k (omega arith) in
        (readable-link-exactly pile (suc k) good.pile-whole (omega arith) (omega (arith, many))
        (rw (b, here (suc k) h) (readable k))
        ).1 (rw (b, here (suc k) h) (is-linked k))
    linked zero z h = absurd (omega arith)

    -- it is linked, with these verdicts
    pub some-pile : SomePile (verdicts_on rs)
    some-pile = record {
      it = pile;
      bytes = (pile-bytes r bytes (length rs)).each;
      holds = record {
        it = answers_of rs;
        bytes = λ i. omega (arith, answer-small rs i);
        holds = record {
          good = good;
          many = many ∙ sym (length-verdicts rs);
          same = λ k h. alike_same (same k (rw (length-verdicts rs) at h));
          links = λ k z h. linked k z (rw (length-verdicts rs) at h);
        };
      };
    }
