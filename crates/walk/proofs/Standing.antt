-- Where a caller comes to from a start, the front of the buffer is the pile of the accepted records.
use Rattle.std.specs.Prelude.{Err, Ok}
use Prim.Native.Nat.{ℕ, ◌+◌, ◌-◌, ◌*◌, ◌%◌, ◌≤◌, ◌<◌}
use mathlib.Core.Path.{◌≡◌, refl, sym, ap, subst, ◌∙◌}
use mathlib.Core.Bool.{true, false}
use mathlib.Core.List.{List}
use mathlib.Core.Logic.{⊎_elim}
use native.Mathlib.Nat.{eq-or-lt_of_le}
use native.Mathlib.Omega.{arith}
use lib.ListN.{length, take, length-append, length-drop, length-replicate}
use Rattle.hash.specs.Hashes.{link_of}
use Rattle.hash.proofs.Lengths.{length-link}
use Rattle.wire_message.specs.Tags.{NONC}
use Rattle.wire_message.specs.Values.{value_of}
use Rattle.pile.specs.Pile.{record_at, rand_in, request_packet, response_packet}
use Rattle.pile.specs.Valid.{record_bad}
use Rattle.pile.specs.Meaning.{IsLinked}
use Rattle.pile.proofs.Recorded as reads
use Rattle.check_response.specs.Check.{check_code}
use Rattle.wire_packet.specs.Blank.{zeros32}
use Rattle.wire_packet.specs.Packet.{body}
use Rattle.wire_request.specs.Request.{request_bytes}
use Rattle.wire_request.proofs.ReadBack.{nonce-reads}
use Rattle.walk.specs.State.{key_at, key_of, request_now}
use Rattle.walk.specs.Starting.{start_code, begun_walk}
use Rattle.walk.specs.Taking.{record_now, recorded, moved_on}
use Rattle.walk.specs.Trace.{Reached}
use Rattle.walk.specs.Trace.Reached.{begun, took}
use Rattle.walk.specs.Standing.{nonce_in, Recorded, InStep}
use Rattle.walk.specs.declared.Walk.{Walk}
use Rattle.walk.specs.declared.Heard.{Heard}
use Rattle.walk.specs.declared.Said.TheVariants.{Next, Ended}
use Rattle.walk.proofs.Accepting.{Accepted, accepted}
use Rattle.walk.proofs.Accepting as accepting
use Rattle.walk.proofs.Checked.{check-yes}
use Rattle.walk.proofs.Lengths.{Long, length-key, length-request-now, length-now, length-recorded}

-- ---- the record of an accepted response

module _ (w : Walk) (h : Heard) (response : List ℕ) (room : ℕ) (a : Accepted w h response room) (long : Long w) where
  key-long : length (key_of w) ≡ 32
  key-long = length-key w long a.goes

  request-fits : length (request_now w) ≤ 2000
  request-fits = omega (arith, length-request-now w long)

  now-request : request_packet (record_now w response) ≡ request_now w
  unfolding record_now
  now-request =
      reads.request-reads (key_of w) w.rand (request_now w) response key-long long.rand request-fits a.short

  pub now-response : response_packet (record_now w response) ≡ response
  unfolding record_now
  now-response =
      reads.response-reads (key_of w) w.rand (request_now w) response key-long long.rand request-fits a.short

  pub now-rand : rand_in (record_now w response) ≡ w.rand
  unfolding record_now
  now-rand =
      reads.rand-reads (key_of w) w.rand (request_now w) response key-long long.rand request-fits a.short

  now-key : take 32 (record_now w response) ≡ key_of w
  unfolding record_now
  now-key = reads.key_reads (key_of w) w.rand (request_now w) response key-long long.rand request-fits a.short

  now-undamaged : record_bad (record_now w response) ≡ false
  unfolding record_now
  now-undamaged =
      reads.reads_whole (key_of w) w.rand (request_now w) response key-long long.rand request-fits a.short

  pub now-nonce : nonce_in (record_now w response) ≡ w.nonce
  unfolding request_now
  now-nonce = ap (λ (q : List ℕ). value_of (body q) NONC) now-request ∙ nonce-reads (key_of w) w.nonce long.nonce

  now-ours : request_packet (record_now w response) ≡ request_bytes (key_of w) (nonce_in (record_now w response))
  unfolding request_now
  now-ours = now-request ∙ ap (request_bytes (key_of w)) (sym now-nonce)

  now-passes : (check_code (request_packet (record_now w response)) (response_packet (record_now w response)) true true
      ).code ≡ 0
  now-passes =
      rw (now-request, now-response) (check-yes (request_now w) response h.delegation h.signature a.checked)

  now-entry : Recorded (key_of w) (record_now w response)
  now-entry = record { keyed = now-key; ours = now-ours; undamaged = now-undamaged; passes = now-passes }

  -- it is linked to the record b, where the nonce that was asked is
  now-linked : (b : List ℕ) → w.nonce ≡ link_of (response_packet b) w.rand → IsLinked b (record_now w response)
  now-linked b e = now-nonce ∙ e ∙ ap (link_of (response_packet b)) (sym now-rand)

-- ---- one accepted response more

module _ (keys nonce : List ℕ) (most : ℕ) where
  module _ (w : Walk) (b : List ℕ) (st : InStep keys nonce most w b) where
    pub stands-long : Long w
    stands-long =
        let n : length keys ≤ 256 = omega (arith, st.whole, st.to) in
        record {
          keys = ap length st.over-these ∙ simp (length-append, length-drop, length-replicate) (omega arith);
          nonce = st.nonce-long;
          rand = st.rand-long;
        }

    module _ (h : Heard) (response : List ℕ) (a : Accepted w h response (length b)) (rl : length h.rand ≡ 32) where
      abbrev later : List ℕ
      later = recorded w response b

      fits : 4096 * w.step ≤ length b
      fits = omega (arith, a.goes.inside, st.room)

      pub before : (k : ℕ) → k < w.step → record_at (recorded w response b) k ≡ record_at b k
      before = reads.record-before b (record_now w response) w.step fits

      pub here : record_at (recorded w response b) w.step ≡ record_now w response
      here =
          reads.record-here b (record_now w response) w.step fits
          (length-now w stands-long a.goes response a.short)

      entry_here : Recorded (key_at w.keys (w.step % w.count)) (record_at later w.step)
      unfolding key_of
      entry_here = rw here (now-entry w h response (length b) a stands-long)

      entries-more : (k : ℕ) → k < w.step + 1 → Recorded (key_at w.keys (k % w.count)) (record_at later k)
      entries-more k l =
          let u : k ≤ w.step = omega arith in
          ⊎_elim
          (λ e. subst (λ (i : ℕ). Recorded (key_at w.keys (i % w.count)) (record_at later i)) (sym e) entry_here)
          (λ m. rw (before k m) (st.entries k m)) (eq-or-lt_of_le u)

      link_here : 0 < w.step → IsLinked (record_at later (w.step - 1)) (record_at later w.step)
      link_here z =
          let m : w.step - 1 < w.step = omega arith in
          rw (before (w.step - 1) m, here)
          (now-linked w h response (length b) a stands-long (record_at b (w.step - 1)) (st.next z))

      links-more : (k : ℕ) → 0 < k → k < w.step + 1 → IsLinked (record_at later (k - 1)) (record_at later k)
      links-more k z l =
          let u : k ≤ w.step = omega arith in
          ⊎_elim
          (λ e.
          subst (λ (i : ℕ). IsLinked (record_at later (i - 1)) (record_at later i)) (sym e) (link_here (omega arith)))
          (λ m. rw (before k m, before (k - 1) (omega arith)) (st.links k z m)) (eq-or-lt_of_le u)

      -- of the first record: it is the one that was written, or stood there before
      first_of : {A : Type 0} (f : List ℕ → A) (x : A) → (w.step ≡ 0 → f (record_now w response) ≡ x)
          → (0 < w.step → f (record_at b 0) ≡ x) → f (record_at later 0) ≡ x
      first_of f x p q =
          let u : 0 ≤ w.step = omega arith in
          ⊎_elim (λ e. ap (λ (i : ℕ). f (record_at later i)) e ∙ ap f here ∙ p (sym e)) (λ m. ap f (before 0 m) ∙ q m)
          (eq-or-lt_of_le u)

      next-nonce : link_of response h.rand
          ≡ link_of (response_packet (record_at later (w.step + 1 - 1))) h.rand
      next-nonce =
          let e : w.step ≡ w.step + 1 - 1 = omega arith in
          ap (λ (x : List ℕ). link_of x h.rand)
          (sym (now-response w h response (length b) a stands-long)
          ∙ ap response_packet (sym here ∙ ap (record_at later) e))

      pub stands-more : InStep keys nonce most (moved_on w h response) (recorded w response b)
      unfolding moved_on
      stands-more = record {
        over-these = st.over-these;
        counted = st.counted;
        allowed = st.allowed;
        from = st.from;
        to = st.to;
        whole = st.whole;
        up_to = omega (arith, a.goes.inside);
        room = rw (length-recorded w stands-long a.goes response a.short b st.room) st.room;
        nonce-long = length-link response h.rand;
        rand-long = rl;
        entries = entries-more;
        links = links-more;
        next = λ z. next-nonce;
        first-rand = λ e. absurd (omega arith);
        first-nonce = λ e. absurd (omega arith);
        zero-rand = λ z.
            first_of rand_in zeros32 (λ e. now-rand w h response (length b) a stands-long ∙ st.first-rand e)
            st.zero-rand;
        host-nonce = λ z.
            first_of nonce_in nonce (λ e. now-nonce w h response (length b) a stands-long ∙ st.first-nonce e)
            st.host-nonce;
      }

  -- ---- from a start

  module _ (n32 : length nonce ≡ 32) where
    pub stands-first : (b : List ℕ) → (start_code keys (length b)).code ≡ 0
        → InStep keys nonce most (begun_walk keys nonce most) b
    unfolding begun_walk
    stands-first b e =
        let g = accepting.begun keys (length b) refl e in
        record {
          over-these = refl;
          counted = refl;
          allowed = refl;
          from = g.from;
          to = g.to;
          whole = g.whole;
          up_to = omega arith;
          room = g.fits;
          nonce-long = n32;
          rand-long = refl;
          entries = λ k l. absurd (omega arith);
          links = λ k z l. absurd (omega arith);
          next = λ z. absurd (omega arith);
          first-rand = λ e. refl;
          first-nonce = λ e. refl;
          zero-rand = λ z. absurd (omega arith);
          host-nonce = λ z. absurd (omega arith);
        }

    -- wherever the caller comes to
    pub standing : (w : Walk) (b : List ℕ) → Reached keys nonce most w b → InStep keys nonce most w b
    standing w b (begun c e) = stands-first c e
    standing w b (took v c h x (Ok (Next u)) s l t) =
        stands-more v c (standing v c s) h x (accepted v h x (length c) refl t.0) l
    standing w b (took v c h x (Ok (Ended u r)) s l t) =
        stands-more v c (standing v c s) h x (accepted v h x (length c) refl t.0) l
    standing w b (took v c h x (Err why) s l t) = standing v c s
