-- The theorem of the walk. Wherever a caller comes to from a start, the pile at the front of the buffer is sound, and
-- at the end what the walk says is what the report check says of that pile.
use Rattle.refusal.specs.declared.Refusal.{Refusal}
use Rattle.std.specs.Prelude.{Err, Ok, Result}
use Prim.Native.Nat.{ℕ, zero, suc, ◌+◌, ◌-◌, ◌*◌, ◌%◌, ◌≤◌, ◌<◌}
use mathlib.Core.Path.{◌≡◌, refl, sym, ap, subst, ◌∙◌}
use mathlib.Core.Bool.{true, false}
use mathlib.Core.List.{List, []}
use native.Mathlib.Nat.{mod-lt, mod-eq_of_lt, add-mod_left}
use native.Mathlib.Omega.{arith}
use lib.Dec.{T, eqb}
use lib.ListN.{length, take, drop, replicate, get_or, length-drop, length-replicate, get_or-replicate}
use lib.Seq.{length-take-le, drop-append-le, take-append-le}
use Rattle.laws.specs.Bytes.{Bytes}
use Rattle.laws.specs.Pasted.{fronted}
use Rattle.laws.proofs.First.{row-quiet, test-quiet}
use Rattle.laws.proofs.Zeros.{zeros-replicate}
use Rattle.refusal.specs.Refusal.{refusal, refusals}
use Rattle.check_response.specs.Check.{check_code, window_in}
use Rattle.check_response.specs.declared.Window.{Window}
use Rattle.wire_packet.specs.Packet.{body}
use Rattle.wire_packet.specs.Request.{request_bad}
use Rattle.pile.specs.Pile.{records_in, record_at, request_packet, response_packet, said_yes}
use Rattle.pile.specs.Links.{first_rand_zero}
use Rattle.pile.specs.Valid.{window_at}
use Rattle.pile.specs.Meaning.{WholePile, GoodPile, ValidRecord, IsLinked, ZeroRand, Undamaged}
use Rattle.pile.proofs.Exactly.{whole-exactly, undamaged-exactly, passed-judged, tested-links}
use Rattle.pile.proofs.Recorded.{record-front}
use Rattle.pile_runs.specs.Clash.{windows_clash}
use Rattle.pile_report.specs.Report.{judged, joined, Reports, report_number}
use Rattle.pile_report.specs.Meaning.{Sound, Accepts, Decides}
use Rattle.pile_report.specs.Taking as cutter
use Rattle.pile_report.proofs.Says.{report-once}
use Rattle.pile_report.proofs.Runs.{joined-later, takes-once}
use Rattle.pile_report.proofs.Exactly.{joined-first}
use Rattle.pile_report.proofs.Sound.{sound-decides, sound-clear, sound-convicts, sound-valid, sound-linked, sound-rand}
use Rattle.pile_report.proofs.Agree.{named-is-cut}
use Rattle.walk.specs.State.{key_at}
use Rattle.walk.specs.Taking.{recorded, moved_on, pile_of, all_yes, Takes, pile_after}
use Rattle.walk.specs.Trace.{Reached, heard, records}
use Rattle.walk.specs.Trace.Reached.{took}
use Rattle.walk.specs.Standing.{Recorded, InStep}
use Rattle.walk.specs.declared.Walk.{Walk}
use Rattle.walk.specs.declared.Heard.{Heard}
use Rattle.walk.specs.declared.Said.TheVariants.{Ended}
use Rattle.walk.proofs.Accepting.{accepted}
use Rattle.walk.proofs.Standing.{standing}
use Rattle.walk.proofs.History.{holds}

-- ---- the pile of a state that stands, once a record is written

-- a record that holds our request and its answer was not lent with a bad request
asked-well : (key r : List ℕ) → Recorded key r → request_bad (request_packet r) ≡ false
unfolding check_code
asked-well key r e = test-quiet refusals _ _ tt (row-quiet refusals _ _ e.passes).0

module _
    (keys nonce : List ℕ) (most : ℕ) (w : Walk) (b : List ℕ) (st : InStep keys nonce most w b)
    (some : 0 < w.step) where
  abbrev pile : List ℕ
  pile = pile_of w.step b

  abbrev answers : List ℕ
  answers = all_yes w.step

  length-pile : length pile ≡ 4096 * w.step
  length-pile = length-take-le (4096 * w.step) b (omega (arith, st.room, st.up_to))

  -- as many records as there were steps
  pub records-are : records_in (pile_of w.step b) ≡ w.step
  records-are = let n = length-pile in omega arith

  whole : WholePile pile
  whole =
      let n = length-pile in
      record {
        exact = omega arith;
        from = omega (arith, records-are);
        to = omega (arith, records-are, st.up_to, st.to);
      }

  yes-at : (i : ℕ) → i < 2 * w.step → get_or answers i 0 ≡ 1
  yes-at i h = get_or-replicate (2 * w.step) i 1 0 h

  good : GoodPile pile answers
  good = record {
    pile-whole = whole;
    two = length-replicate {A = ℕ} (2 * w.step) 1 ∙ omega (arith, records-are);
    one_at_most = λ i h.
        let e = yes-at i (rw (length-replicate {A = ℕ} (2 * w.step) 1) at h) in
        omega (arith, e);
  }

  said : (i : ℕ) → i < 2 * w.step → said_yes answers i ≡ true
  unfolding said_yes
  said i h = ap (λ (x : ℕ). eqb x 1) (yes-at i h)

  pub at : (k : ℕ) → k < w.step → record_at (pile_of w.step b) k ≡ record_at b k
  at k h = record-front b (4096 * w.step) k (omega arith)

  entry : (k : ℕ) → k < w.step → Recorded (key_at w.keys (k % w.count)) (record_at pile k)
  entry k h = rw (at k h) (st.entries k h)

  undamaged : (k : ℕ) → k < w.step → Undamaged (record_at pile k)
  undamaged k h = (undamaged-exactly (record_at pile k)).0 (entry k h).undamaged

  valid-at : (k : ℕ) → k < records_in pile → judged pile answers k ≡ Ok (window_at pile k)
  valid-at k l =
      let h : k < w.step = omega (arith, records-are) in
      passed-judged pile answers k good l (entry k h).undamaged
      (rw (said (2 * k) (omega arith), said (2 * k + 1) (omega arith)) (entry k h).passes)

  linked-at : (k : ℕ) → 0 < k → k < records_in pile → joined pile k ≡ true
  linked-at k z l =
      let h : k < w.step = omega (arith, records-are) in
      let g : k - 1 < w.step = omega arith in
      joined-later pile k z
      ∙ tested-links pile k whole z l (undamaged k h).request-fits (undamaged (k - 1) g).response-fits
      (asked-well _ _ (entry k h)) (rw (at (k - 1) g, at k h) (st.links k z h))

  rand-zero : first_rand_zero pile ≡ true
  unfolding first_rand_zero
  rand-zero = rw ((whole-exactly pile).1 whole, at 0 some, st.zero-rand some) (zeros-replicate 32)

  joined_at : (k : ℕ) → k < records_in pile → joined pile k ≡ true
  joined_at zero l = joined-first pile ∙ rand-zero
  joined_at (suc k) l = linked-at (suc k) (omega arith) l

  pub stands-sound : Sound (pile_of w.step b) (all_yes w.step)
  stands-sound = record { good = good; all_valid = valid-at; all-joined = joined_at }

-- key i of keys that stand at the front of a row of bytes
pub key-front : (keys o : List ℕ) (i : ℕ) → 32 * i + 32 ≤ length keys → key_at (fronted keys o) i ≡ key_at keys i
key-front keys o i h =
    let n : 32 ≤ length (drop (32 * i) keys) = simp length-drop (omega arith) in
    ap (take 32) (drop-append-le (32 * i) keys _ (omega arith)) ∙ take-append-le 32 (drop (32 * i) keys) _ n

-- ---- At every step:

module _
    (keys nonce : List ℕ) (most : ℕ) (n32 : length nonce ≡ 32) (w : Walk) (b : List ℕ)
    (way : Reached keys nonce most w b) where
  -- the front of the buffer is the records of the accepted responses, one after the other,
  pub front-is : pile_of w.step b ≡ records way
  front-is = (holds keys nonce most n32 w b way).all

  -- and once there is one, it is a sound pile: each record valid and linked, and the first rand zero
  pub front-sound : 0 < w.step → Sound (pile_of w.step b) (all_yes w.step)
  front-sound some = stands-sound keys nonce most w b (standing keys nonce most n32 w b way) some

  -- record k is of server k, from 0, and after the last one of the first again
  pub key_of : (k : ℕ) → k < w.step → take 32 (record_at b k) ≡ key_at keys (k % w.count)
  key_of k h =
      let st = standing keys nonce most n32 w b way in
      let m : k % w.count < w.count = mod-lt k (omega (arith, st.from)) in
      (st.entries k h).keyed
      ∙ ap (λ (x : List ℕ). key_at x (k % w.count)) st.over-these
      ∙ key-front keys (replicate 256 0) (k % w.count) (omega (arith, st.whole))

-- ---- At the end: of the call that ends a walk from a start,

module _
    (keys nonce : List ℕ) (most : ℕ) (n32 : length nonce ≡ 32) (w : Walk) (b : List ℕ)
    (way : Reached keys nonce most w b) (h : Heard) (response : List ℕ) (rl : length h.rand ≡ 32) (v : Window)
    (r : Result (ℕ × ℕ) (Refusal × ℕ)) (t : Takes w h response b (Ok (Ended v r))) where
  abbrev last-way : Reached keys nonce most (moved_on w h response) (recorded w response b)
  last-way = took w b h response (Ok (Ended v r)) way rl t

  -- the pile, two records a server, and its answers
  abbrev left : List ℕ
  left = pile_of (2 * w.count) (pile_after (Ok (Ended v r)) w response b)

  abbrev yeses : List ℕ
  yeses = all_yes (2 * w.count)

  full : w.step + 1 ≡ 2 * w.count
  full = let a = accepted w h response (length b) refl t.0 in omega (arith, a.goes.inside, t.1.0)

  -- the pile is sound,
  pub ends-sound : Sound left yeses
  unfolding moved_on
  ends-sound =
      subst (λ (n : ℕ). Sound (pile_of n (recorded w response b)) (all_yes n)) full
      (front-sound keys nonce most n32 (moved_on w h response) (recorded w response b) last-way (omega arith))

  -- it is the records of all accepted responses,
  pub ends-all : left ≡ records last-way
  unfolding moved_on
  ends-all =
      ap (λ (n : ℕ). pile_of n (recorded w response b)) (sym full)
      ∙ front-is keys nonce most n32 (moved_on w h response) (recorded w response b) last-way

  -- two a server, so that they are 16 for 8 servers,
  pub ends_with : records_in left ≡ 2 * w.count
  unfolding moved_on
  ends_with =
      subst (λ (n : ℕ). records_in (pile_of n (recorded w response b)) ≡ n) full
      (records-are keys nonce most (moved_on w h response) (recorded w response b)
      (standing keys nonce most n32 (moved_on w h response) (recorded w response b) last-way) (omega arith))

  -- and, as it is bytes, what document 01 asks of a report but the pair
  pub ends-valid : Bytes left → (k : ℕ) → k < 2 * w.count → ValidRecord left yeses k
  ends-valid bytes k l = sound-valid left yeses ends-sound bytes k (omega (arith, ends_with))

  pub ends-linked : Bytes left → (k : ℕ) → 0 < k → k < 2 * w.count → IsLinked (record_at left (k - 1)) (record_at left k)
  ends-linked bytes k z l = sound-linked left yeses ends-sound bytes k z (omega (arith, ends_with))

  pub ends-rand : ZeroRand left
  ends-rand = sound-rand left yeses ends-sound

  -- the servers go around twice, in their order
  end-key : (k : ℕ) → k < 2 * w.count → take 32 (record_at left k) ≡ key_at keys (k % w.count)
  unfolding moved_on
  end-key k l =
      ap (take 32) (record-front (recorded w response b) (4096 * (2 * w.count)) k (omega arith))
      ∙ key_of keys nonce most n32 (moved_on w h response) (recorded w response b) last-way k (omega (arith, full))

  pub first_round : (k : ℕ) → k < w.count → take 32 (record_at left k) ≡ key_at keys k
  first_round k l = end-key k (omega arith) ∙ ap (key_at keys) (mod-eq_of_lt l)

  pub second-round : (k : ℕ) → k < w.count → take 32 (record_at left (w.count + k)) ≡ key_at keys k
  second-round k l =
      end-key (w.count + k) (omega arith) ∙ ap (key_at keys) (add-mod_left w.count k ∙ mod-eq_of_lt l)

  -- what the walk says is malfeasance, a pair, or consistent, 18,
  pub ends_decided : Decides r
  ends_decided = sound-decides left yeses ends-sound r t.1.1

  -- and the report check with all answers yes says the same of the pile, whoever makes it:
  pub ends-checked : (s : Result (ℕ × ℕ) (Refusal × ℕ)) → Reports left yeses s → s ≡ r
  ends-checked s p = report-once left yeses s r p t.1.1

  -- it accepts the pile where the walk said malfeasance,
  pub malfeasance-accepted : (i j : ℕ) → r ≡ Ok (i, j) → (s : Result (ℕ × ℕ) (Refusal × ℕ)) → Reports left yeses s → report_number s ≡ 0
  malfeasance-accepted i j e s p = ap report_number (ends-checked s p ∙ e)

  -- and says 18 where it said consistent
  pub consistent-clear : report_number r ≡ 18 → (s : Result (ℕ × ℕ) (Refusal × ℕ)) → Reports left yeses s → report_number s ≡ 18
  consistent-clear e s p = ap report_number (ends-checked s p) ∙ e

  -- the cutter, with room for the pile, takes a run where the walk said malfeasance, from record to record of the pair,
  pub ends-cut : (room i j : ℕ) (c : Result (ℕ × ℕ) Refusal) → r ≡ Ok (i, j) → length left ≤ room → cutter.Takes left yeses room c
      → c ≡ Ok (i, j)
  ends-cut room i j c e l u =
      named-is-cut left yeses room i j c (subst (λ (x : Result (ℕ × ℕ) (Refusal × ℕ)). Reports left yeses x) e t.1.1) l u

  -- and none where it said consistent
  pub ends-uncut : (room : ℕ) (c : Result (ℕ × ℕ) Refusal) → report_number r ≡ 18 → length left ≤ room → cutter.Takes left yeses room c
      → c ≡ Err (refusal 18)
  ends-uncut room c e l u =
      takes-once left yeses room c (Err (refusal 18)) u
      (cutter.code-18 ends-sound.good l (λ i j v.
      sound-clear left yeses ends-sound r t.1.1 e v.i v.j
      (record { order = v.order; inside = omega (arith, v.to, v.inside); holds = v.clash })))

  -- Where an earlier window lies wholly after a later one, it is malfeasance, whichever two they are and whatever the
  -- others say: of the windows of the pile,
  pub lie-told : (i j : ℕ) → i < j → j < 2 * w.count → T (windows_clash (window_at left i) (window_at left j)) → Accepts r
  lie-told i j o l c = sound-convicts left yeses ends-sound i j o (omega (arith, ends_with)) c r t.1.1

  -- and of those of the responses that the walk accepted
  window-of : (k : ℕ) → k < 2 * w.count → window_at left k ≡ window_in (body (get_or (heard last-way) k []))
  unfolding moved_on
  window-of k l =
      ap (λ (x : List ℕ). window_in (body (response_packet x)))
      (record-front (recorded w response b) (4096 * (2 * w.count)) k (omega arith))
      ∙ ap (λ (x : List ℕ). window_in (body x))
      ((holds keys nonce most n32 (moved_on w h response) (recorded w response b) last-way).each k (omega (arith, full)))

  pub lie-heard : (i j : ℕ) → i < j → j < 2 * w.count
      → T
      (windows_clash (window_in (body (get_or (heard (took w b h response (Ok (Ended v r)) way rl t)) i [])))
      (window_in (body (get_or (heard (took w b h response (Ok (Ended v r)) way rl t)) j []))))
      → Accepts r
  lie-heard i j o l c = lie-told i j o l (rw (window-of i (omega arith), window-of j l) c)
