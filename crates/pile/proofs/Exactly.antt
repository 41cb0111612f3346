-- The tests by which piles, records and links are stated hold exactly where the sentences of Meaning do. The way from a
-- test to a sentence that speaks of good packets asks that the pile is bytes; the way back asks nothing.
use Rattle.std.specs.Prelude.{Err, Ok}
use Prim.Native.Nat.{ℕ, ◌+◌, ◌*◌, ◌-◌, ◌≤◌, ◌<◌}
use mathlib.Core.Path.{◌≡◌, refl, sym, ap, ◌∙◌}
use mathlib.Core.Bool.{Bool, true, false, not, cond, true≢false}
use mathlib.Core.List.{List}
use mathlib.Core.Logic.{◌↔◌}
use native.Mathlib.Omega.{arith}
use borrow.Author.Tests.{eq-eqb, ne_eqb, eqb-true, eqb-false, le-ltb, ltb-false, lt-leb, leb-false, not-false}
use lib.ListN.{length, drop, get_or, length-take, length-drop}
use lib.Seq.{get_or-take, get_or-drop}
use Rattle.laws.specs.Bytes.{Bytes}
use Rattle.laws.specs.First.{when_of}
use Rattle.laws.specs.Pasted.{part}
use Rattle.laws.specs.Zeros.{zeros}
use Rattle.laws.proofs.Any.{any-not, any_none, any-parts}
use Rattle.laws.proofs.Bytes.{bytes_take, bytes_drop}
use Rattle.laws.proofs.First.{before-false, quiet_of, row-quiet, test-quiet}
use Rattle.laws.proofs.Least.{nowhere, nowhere-at}
use Rattle.laws.proofs.Same.{same_refl, same_true}
use Rattle.laws.proofs.Zeros.{zeros-at, zeros-all}
use Rattle.refusal.specs.Refusal.{refusals}
use Rattle.refusal.specs.declared.Refusal.{Refusal}
use Rattle.check_response.specs.Check.{check_code}
use Rattle.check_response.specs.declared.Window.{Window}
use Rattle.check_response.proofs.Exactly.{passes-code, code-exactly}
use Rattle.check_response.proofs.Lent.{by-valid, valid-by, by-refused, key-by, no_key}
use Rattle.wire_packet.specs.Blank.{zeros32}
use Rattle.wire_packet.specs.Request.{request_bad, request_code}
use Rattle.wire_packet.proofs.GoodRequest.{good-request, request-good}
use Rattle.wire_packet.proofs.RequestCodes.{lent-good}
use Rattle.pile.specs.Pile.{records_in, record_at, request_length, response_length, request_packet, response_packet}
use Rattle.pile.specs.Pile.{said_yes, above_one, length_bad, answer_bad, pile_bad, pile_code}
use Rattle.pile.specs.Valid.{area_bad, record_bad, record_code, record_verdict, judged_at, window_at}
use Rattle.pile.specs.Valid.{pubk_at, nothing_at, judge_code, judgement_of}
use Rattle.pile.specs.Links.{nonce_links, unreadable, follows, unlinkable, linked_of, first_rand_zero}
use Rattle.pile.specs.Meaning.{WholePile, GoodPile, Undamaged, ValidRecord, ZeroRand}
use Rattle.pile.specs.Meaning.{IsLinked, LinkReadable, LinkHolds, LinkedAt}
use Rattle.pile.proofs.Wholes.{whole}

-- ---- code 15

-- a pile of 1 to 16 whole records
pub whole-exactly : (pile : List ℕ) → length_bad pile ≡ false ↔ WholePile pile
unfolding length_bad
whole-exactly pile = (
  whole pile,
  λ w.
      any-not _ (ap not (eq-eqb _ _ w.exact))
      (any-not _ (le-ltb (records_in pile) 1 w.from) (any-not _ (le-ltb 16 (records_in pile) w.to) any_none)),
)

answers-exactly : (answers : List ℕ) → answer_bad answers ≡ false ↔ ((i : ℕ) → i < length answers → get_or answers i 0 ≤ 1)
unfolding answer_bad
answers-exactly answers = (
  λ e i h. ltb-false 1 (get_or answers i 0) (nowhere-at (above_one answers) (length answers) i e h),
  λ f. nowhere (above_one answers) (length answers) (λ i h. le-ltb 1 (get_or answers i 0) (f i h)),
)

good-exactly : (pile answers : List ℕ) → pile_bad pile answers ≡ false ↔ GoodPile pile answers
unfolding pile_bad
good-exactly pile answers = (
  λ e.
      let a = any-parts _ _ e in
      let b = any-parts _ _ a.1 in
      record {
        pile-whole = (whole-exactly pile).0 a.0;
        two = eqb-true _ _ (not-false _ b.0);
        one_at_most = (answers-exactly answers).0 (any-parts _ _ b.1).0;
      },
  λ g.
      any-not _ ((whole-exactly pile).1 g.pile-whole)
      (any-not _ (ap not (eq-eqb _ _ g.two)) (any-not _ ((answers-exactly answers).1 g.one_at_most) any_none)),
)

-- 15 applies exactly where the pile and its answers are not what document 01 says
pub pile-exactly : (pile answers : List ℕ) → (pile_code pile answers).code ≡ 0 ↔ GoodPile pile answers
unfolding pile_code when_of
pile-exactly pile answers = (
  λ e. (good-exactly pile answers).0 (test-quiet refusals (pile_bad pile answers) _ tt e),
  λ g. rw ((good-exactly pile answers).1 g),
)

-- ---- code 16

-- the part of r from byte a to byte e, without its first n bytes: byte j of it,
byte_of : (r : List ℕ) (a e n j : ℕ) → n + j < e - a → get_or (drop n (part a e r)) j 0 ≡ get_or r (a + (n + j)) 0
byte_of r a e n j h = get_or-drop n (part a e r) j 0 ∙ get_or-take (e - a) (drop a r) (n + j) 0 h ∙ get_or-drop a r (n + j) 0

-- and it is all zeros exactly where every byte of it is
zeros-exactly : (r : List ℕ) (a e n : ℕ)
    → not (zeros (drop n (part a e r))) ≡ false ↔ ((i : ℕ) → a + n ≤ i → i < e → get_or r i 0 ≡ 0)
zeros-exactly r a e n = (
  λ z i h k.
      let y : i ≡ a + (n + (i - (a + n))) = omega arith in
      ap (λ (m : ℕ). get_or r m 0) y
      ∙ sym (byte_of r a e n (i - (a + n)) (omega arith))
      ∙ zeros-at (drop n (part a e r)) (not-false _ z) (i - (a + n)),
  λ f.
      ap not
      (zeros-all (drop n (part a e r))
      (λ j h.
      let g = simp (length-drop, length-take) at h in
      byte_of r a e n j (omega arith) ∙ f (a + (n + j)) (omega arith) (omega arith))),
)

-- an area, from byte a to byte e of the record r, whose packet has n bytes
area-exactly : (r : List ℕ) (a e n : ℕ)
    → area_bad (part a e r) n ≡ false ↔ ((n ≤ 2000) × ((i : ℕ) → a + n ≤ i → i < e → get_or r i 0 ≡ 0))
unfolding area_bad
area-exactly r a e n = (
  λ z.
      let p = any-parts _ _ z in
      (ltb-false 2000 n p.0, (zeros-exactly r a e n).0 (any-parts _ _ p.1).0),
  λ f. any-not _ (le-ltb 2000 n f.0) (any-not _ ((zeros-exactly r a e n).1 f.1) any_none),
)

-- 16 applies exactly where a length is above 2,000 or a must-be-zero byte is not zero
pub undamaged-exactly : (r : List ℕ) → record_bad r ≡ false ↔ Undamaged r
unfolding record_bad
undamaged-exactly r = (
  λ z.
      let p = any-parts _ _ z in
      let q = any-parts _ _ p.1 in
      let a = (area-exactly r 96 2096 (request_length r)).0 p.0 in
      let b = (area-exactly r 2096 4096 (response_length r)).0 q.0 in
      record {
        request-fits = a.0;
        response-fits = b.0;
        gap = (zeros-exactly r 72 96 0).0 (any-parts _ _ q.1).0;
        request-rest = a.1;
        response-rest = b.1;
      },
  λ u.
      any-not _ ((area-exactly r 96 2096 (request_length r)).1 (u.request-fits, u.request-rest))
      (any-not _ ((area-exactly r 2096 4096 (response_length r)).1 (u.response-fits, u.response-rest))
      (any-not _ ((zeros-exactly r 72 96 0).1 u.gap) any_none)),
)

-- ---- a valid record

there-exactly : (pile answers : List ℕ) (k : ℕ)
    → nothing_at pile answers k ≡ false ↔ (GoodPile pile answers × (k < records_in pile))
unfolding nothing_at
there-exactly pile answers k = (
  λ z.
      let p = any-parts _ _ z in
      ((good-exactly pile answers).0 p.0, leb-false (records_in pile) k (any-parts _ _ p.1).0),
  λ f. any-not _ ((good-exactly pile answers).1 f.0) (any-not _ (lt-leb (records_in pile) k f.1) any_none),
)

-- what is judged of a record that is there is what is said of it
pub judged-at : (pile answers : List ℕ) (k : ℕ) → GoodPile pile answers → k < records_in pile
    → (judgement_of pile answers k).verdict ≡ judged_at pile answers k
unfolding judgement_of judge_code record_verdict
judged-at pile answers k g h = rw (before-false refusals _ _ _ ((there-exactly pile answers k).1 (g, h)))

-- the packets of bytes are bytes
record-bytes : (pile : List ℕ) (k : ℕ) → Bytes pile → Bytes (record_at pile k)
unfolding record_at
record-bytes pile k b = bytes_take (drop (4096 * k) pile) (bytes_drop pile b (4096 * k)) 4096

request-bytes : (r : List ℕ) → Bytes r → Bytes (request_packet r)
unfolding request_packet
request-bytes r b =
    bytes_take (part 96 2096 r) (bytes_take (drop 96 r) (bytes_drop r b 96) 2000) (request_length r)

response-bytes : (r : List ℕ) → Bytes r → Bytes (response_packet r)
unfolding response_packet
response-bytes r b =
    bytes_take (part 2096 4096 r) (bytes_take (drop 2096 r) (bytes_drop r b 2096) 2000) (response_length r)

module _ (pile answers : List ℕ) (k : ℕ) where
  -- to a record that is there and not damaged, and whose response is not refused, no code applies,
  passed-code : GoodPile pile answers → k < records_in pile → record_bad (record_at pile k) ≡ false
      → (check_code (request_packet (record_at pile k)) (response_packet (record_at pile k))
      (said_yes answers (2 * k)) (said_yes answers (2 * k + 1))
      ).code ≡ 0
      → (judge_code pile answers k).code ≡ 0
  unfolding judge_code record_code
  passed-code g h u z =
      quiet_of refusals (sym (before-false refusals _ _ _ ((there-exactly pile answers k).1 (g, h))))
      (quiet_of refusals (sym (before-false refusals _ _ _ u)) z)

  pub passed-judged : GoodPile pile answers → k < records_in pile → record_bad (record_at pile k) ≡ false
      → (check_code (request_packet (record_at pile k)) (response_packet (record_at pile k))
      (said_yes answers (2 * k)) (said_yes answers (2 * k + 1))
      ).code ≡ 0
      → (judgement_of pile answers k).verdict ≡ Ok (window_at pile k)
  unfolding judgement_of
  passed-judged g h u z = valid-by (judge_code pile answers k) _ (passed-code g h u z)

  -- and so to one that document 01 calls valid,
  valid-code : ValidRecord pile answers k → (judge_code pile answers k).code ≡ 0
  valid-code v =
      passed-code v.pile-good v.there ((undamaged-exactly (record_at pile k)).1 v.undamaged)
      (passes-code _ _ _ _ v.passes)

  -- and where none applies, it calls the record valid;
  pub judge-exactly : Bytes pile → (judge_code pile answers k).code ≡ 0 ↔ ValidRecord pile answers k
  unfolding judge_code record_code
  judge-exactly bytes = (
    λ z.
        let a = row-quiet refusals _ _ z in
        let g = (there-exactly pile answers k).0 (test-quiet refusals _ _ tt a.0) in
        let b = row-quiet refusals _ _ (row-quiet refusals _ _ a.1).0 in
        record {
          pile-good = g.0;
          there = g.1;
          undamaged = (undamaged-exactly (record_at pile k)).0 (test-quiet refusals _ _ tt b.0);
          passes =
              (code-exactly _ _ _ _ (request-bytes (record_at pile k) (record-bytes pile k bytes))
              (response-bytes (record_at pile k) (record-bytes pile k bytes))
              ).0 (row-quiet refusals _ _ b.1).0;
        },
    valid-code,
  )

  -- so it is judged valid exactly when it is,
  pub valid-judged : ValidRecord pile answers k → (judgement_of pile answers k).verdict ≡ Ok (window_at pile k)
  unfolding judgement_of
  valid-judged v = valid-by (judge_code pile answers k) _ (valid-code v)

  pub valid-exactly : Bytes pile
      → (judgement_of pile answers k).verdict ≡ Ok (window_at pile k) ↔ ValidRecord pile answers k
  unfolding judgement_of
  valid-exactly bytes = (λ e. (judge-exactly bytes).0 (by-valid (judge_code pile answers k) _ _ e).0, valid-judged)

  -- and no other window comes out than its response's own
  pub window-of-its-own : (w : Window) → (judgement_of pile answers k).verdict ≡ Ok w → w ≡ window_at pile k
  unfolding judgement_of
  window-of-its-own w e = (by-valid (judge_code pile answers k) _ w e).1

  -- beside a window stands its response's own key,
  pub key-of-its-own : (w : Window) → (judgement_of pile answers k).verdict ≡ Ok w
      → (judgement_of pile answers k).pubk ≡ pubk_at pile k
  unfolding judgement_of
  key-of-its-own w e = key-by (judge_code pile answers k) _ (by-valid (judge_code pile answers k) _ w e).0

  -- and beside a refusal 32 zero bytes
  pub no-key-told : (why : Refusal) → (judgement_of pile answers k).verdict ≡ Err why
      → (judgement_of pile answers k).pubk ≡ zeros32
  unfolding judgement_of
  no-key-told why e = no_key (judge_code pile answers k) _ (by-refused (judge_code pile answers k) _ why e)

-- ---- links

-- a test v that counts only where t does not hold: where it counts, t fails and v holds
unless : (t v : Bool) → cond t false v ≡ true → (t ≡ false) × (v ≡ true)
unless true v e = absurd (true≢false (sym e))
unless false v e = (refl, e)

reads : (b r : List ℕ) → Bytes r → unreadable b r ≡ false → LinkReadable b r
unfolding unreadable
reads b r bytes z =
    let p = any-parts _ _ z in
    let q = any-parts _ _ p.1 in
    record {
      request-fits = ltb-false 2000 (request_length r) p.0;
      response-fits = ltb-false 2000 (response_length b) q.0;
      request = request-good _ (request-bytes r bytes) (lent-good (request_packet r) refl (any-parts _ _ q.1).0);
    }

tested-readable : (b r : List ℕ) → request_length r ≤ 2000 → response_length b ≤ 2000
    → request_bad (request_packet r) ≡ false → unreadable b r ≡ false
unfolding unreadable
tested-readable b r l m t =
    any-not _ (le-ltb 2000 (request_length r) l)
    (any-not _ (le-ltb 2000 (response_length b) m) (any-not _ t any_none))

readable : (b r : List ℕ) → LinkReadable b r → unreadable b r ≡ false
unfolding request_bad
readable b r f =
    tested-readable b r f.request-fits f.response-fits
    (ap not (eq-eqb (request_code (request_packet r)).code 0 (good-request _ f.request)))

-- a record that follows another has document 01's nonce
follows-nonce : (b r : List ℕ) → follows b r ≡ true → IsLinked b r
unfolding follows nonce_links
follows-nonce b r e = same_true _ _ (unless (unreadable b r) _ e).1

follows-holds : (b r : List ℕ) → Bytes r → follows b r ≡ true → LinkHolds b r
unfolding follows
follows-holds b r bytes e =
    record { readable = reads b r bytes (unless (unreadable b r) _ e).0; nonce = follows-nonce b r e }

nonce-follows : (b r : List ℕ) → unreadable b r ≡ false → IsLinked b r → follows b r ≡ true
unfolding follows nonce_links
nonce-follows b r u n = rw (u, n) (same_refl _)

-- Record k is linked exactly where it is by the sentence of Meaning. That sentence asks more than document 01's: a good
-- request, and lengths of at most 2,000. This is ours, and no house rule of document 01.
nonce-links : (pile : List ℕ) (k : ℕ) → WholePile pile → 1 ≤ k → k < records_in pile
    → unreadable (record_at pile (k - 1)) (record_at pile k) ≡ false
    → IsLinked (record_at pile (k - 1)) (record_at pile k) → linked_of pile k ≡ true
unfolding linked_of unlinkable
nonce-links pile k whole after there u n =
    let m : k ≡ 0 → ⊥ = λ z. absurd (omega arith) in
    rw
    (any-not _ ((whole-exactly pile).1 whole)
    (any-not _ (ne_eqb k 0 m) (any-not _ (lt-leb (records_in pile) k there) any_none)))
    (nonce-follows (record_at pile (k - 1)) (record_at pile k) u n)

sentence-links : (pile : List ℕ) (k : ℕ) → LinkedAt pile k → linked_of pile k ≡ true
sentence-links pile k l =
    nonce-links pile k l.pile-whole l.after l.there (readable _ _ l.holds.readable) l.holds.nonce

-- the same with the tests of the lengths and the request, which ask nothing of the pile's bytes
pub tested-links : (pile : List ℕ) (k : ℕ) → WholePile pile → 1 ≤ k → k < records_in pile
    → request_length (record_at pile k) ≤ 2000
    → response_length (record_at pile (k - 1)) ≤ 2000
    → request_bad (request_packet (record_at pile k)) ≡ false
    → IsLinked (record_at pile (k - 1)) (record_at pile k) → linked_of pile k ≡ true
tested-links pile k whole after there l m t n =
    nonce-links pile k whole after there (tested-readable _ _ l m t) n

pub linked-exactly : (pile : List ℕ) (k : ℕ) → Bytes pile → linked_of pile k ≡ true ↔ LinkedAt pile k
unfolding linked_of unlinkable
linked-exactly pile k bytes = (
  λ e.
      let a = unless _ (follows (record_at pile (k - 1)) (record_at pile k)) e in
      let p = any-parts _ _ a.0 in
      let q = any-parts _ _ p.1 in
      let z : k ≡ 0 → ⊥ = eqb-false k 0 q.0 in
      record {
        pile-whole = (whole-exactly pile).0 p.0;
        after = omega arith;
        there = leb-false (records_in pile) k (any-parts _ _ q.1).0;
        holds = follows-holds (record_at pile (k - 1)) (record_at pile k) (record-bytes pile k bytes) a.1;
      },
  sentence-links pile k,
)

-- Where the request is a good one and the lengths are at most 2,000, a record is linked exactly by document 01's own
-- sentence,
pub readable-link-exactly : (pile : List ℕ) (k : ℕ) → WholePile pile → 1 ≤ k → k < records_in pile
    → LinkReadable (record_at pile (k - 1)) (record_at pile k)
    → linked_of pile k ≡ true ↔ IsLinked (record_at pile (k - 1)) (record_at pile k)
unfolding linked_of
readable-link-exactly pile k whole after there reads = (
  λ e. follows-nonce _ _ (unless (unlinkable pile k) _ e).1,
  λ n.
      sentence-links pile k
      (record { pile-whole = whole; after = after; there = there; holds = record { readable = reads; nonce = n } }),
)

-- and so it is where both records are valid: in reports and runs, what we ask besides asks nothing more
pub valid-link-exactly : (pile answers : List ℕ) (k : ℕ) → 1 ≤ k → ValidRecord pile answers (k - 1)
    → ValidRecord pile answers k → linked_of pile k ≡ true ↔ IsLinked (record_at pile (k - 1)) (record_at pile k)
valid-link-exactly pile answers k after b r =
    readable-link-exactly pile k r.pile-good.pile-whole after r.there
    (record {
      request-fits = r.undamaged.request-fits;
      response-fits = b.undamaged.response-fits;
      request = r.passes.request;
    })

-- the first rand counts as zero exactly where every byte of it is
pub rand-exactly : (pile : List ℕ) → first_rand_zero pile ≡ true ↔ ZeroRand pile
unfolding first_rand_zero
rand-exactly pile = (
  λ e.
      let a = unless (length_bad pile) _ e in
      record {
        pile-whole = (whole-exactly pile).0 a.0;
        rand = (zeros-exactly (record_at pile 0) 32 64 0).0 (ap not a.1);
      },
  λ z. rw ((whole-exactly pile).1 z.pile-whole) (not-false _ ((zeros-exactly (record_at pile 0) 32 64 0).1 z.rand)),
)
