-- With a walk: where at most f lie and more than f have answered, the time is told, whether the walk ends consistent,
-- in malfeasance, or not at all since a server is silent.
use Rattle.std.specs.Prelude.{Ok}
use mathlib.Core.Path.{◌≡◌, refl}
use mathlib.Core.Bool.{Bool, true, false}
use mathlib.Core.List.{List}
use Prim.Native.Nat.{ℕ, zero, suc, ◌+◌, ◌*◌, ◌%◌, ◌≤◌, ◌<◌, min}
use mathlib.Core.Logic.{⊎_elim}
use native.Mathlib.Nat.{mod-lt, mod-eq_of_lt, eq-or-lt_of_le, le_of_suc-le-suc}
use native.Mathlib.Numerals.{add-one}
use native.Mathlib.Omega.{arith, by_contra}
use lib.ListN.{length}
use Rattle.clock_spans.specs.Spans.{used_at}
use Rattle.clock_agreement.specs.Count.{counted_in, count_of}
use Rattle.clock.specs.State.{newest}
use Rattle.clock.specs.Used.{too_early}
use Rattle.clock.specs.Answer.{answer_of, number}
use Rattle.clock.specs.Meaning.{spans_then, count_then}
use Rattle.clock.specs.declared.Clock.{Clock}
use Rattle.pile.specs.Pile.{record_at, request_packet, response_packet}
use Rattle.check_response.specs.Check.{verdict_of}
use Rattle.walk.specs.Trace.{Reached}
use Rattle.walk.specs.Standing.{InStep}
use Rattle.walk.specs.declared.Walk.{Walk}
use Rattle.walk.proofs.Standing.{standing}
use Rattle.clock_laws.specs.Truth.{liars}
use Rattle.clock_laws.specs.History.{Heard, after, IsTaken, World}
use Rattle.clock_laws.specs.Walked.{window_of, walked, InTurn}
use Rattle.clock_laws.proofs.First.{many-first, takes, newest-is, counted-by-newest}
use Rattle.clock_laws.proofs.Receipts.{kept-heard, early-exactly}
use Rattle.clock_laws.proofs.Taking.{after-drift}
use Rattle.clock_laws.proofs.Told.{never-refused}

-- receipts follow one another
in_order : {sent received : ℕ → ℕ} → InTurn sent received → (j k : ℕ) → j < k → received j ≤ received k
in_order turn j zero l = absurd (omega arith)
in_order {sent} {received} turn j (suc k) l =
    let a = turn.next k in
    let b = rw add-one at (turn.answered (k + 1)) in
    let step : received k ≤ received (suc k) = omega (arith, rw add-one at a, b) in
    ⊎_elim (λ e. rw e step) (λ m. omega (arith, in_order turn j k m, step)) (eq-or-lt_of_le (le_of_suc-le-suc l))

-- a test that does not hold
not_so : (b : Bool) → (b ≡ true → ⊥) → b ≡ false
not_so true f = absurd (f refl)
not_so false f = refl

module _ (keys nonce : List ℕ) (most : ℕ) (n32 : length nonce ≡ 32) (w : Walk) (pile : List ℕ)
    (way : Reached keys nonce most w pile) where
  st : InStep keys nonce most w pile
  st = standing keys nonce most n32 w pile way

  -- what is taken of record k is the window of a valid response
  pub walked-valid : (k : ℕ) → k < w.step
      → verdict_of (request_packet (record_at pile k)) (response_packet (record_at pile k)) true true
      ≡ Ok (window_of pile k)
  unfolding verdict_of
  walked-valid k l = rw (st.entries k l).passes refl

  module _ (sent received : ℕ → ℕ) (turn : InTurn sent received) (drift : ℕ) where
    abbrev h : ℕ → Heard
    h = walked w pile sent received

    abbrev c : Clock
    c = after drift h w.step

    -- none is refused
    taken : (k : ℕ) → IsTaken drift h k
    taken k =
        let s : k % w.count < w.count = mod-lt k (omega (arith, st.from)) in
        takes (after drift h k) (k % w.count) (h k).window
        (record {
          one = omega (arith, s, st.to);
          after-sent = turn.answered k;
          after_last =
              by_contra _ _ (λ m.
              let x = kept-heard drift h (received k) k (2 * (k % w.count)) (omega (arith, s, st.to)) m in
              omega (arith, x.later, in_order turn x.place k x.below));
        })

    module _ (t : ℕ) (now : (k : ℕ) → k < w.step → received k ≤ t) where
      in-time : too_early c t ≡ false
      in-time =
          not_so (too_early c t) (λ e.
          let x = (early-exactly drift h w.step t).0 e in omega (arith, x.later, now x.place x.below))

      module _ (fresh : (k : ℕ) → k < w.step → used_at drift (h k).window t ≡ true) where
        -- a server that has answered is counted
        answered : (j : ℕ) → j < w.step → j < w.count → counted_in (spans_then c t) j ≡ true
        answered j l m =
            let x = newest-is drift h w.step j l (taken j) in
            let s : j % w.count ≡ j = mod-eq_of_lt m in
            let u : used_at c.drift (newest c (j % w.count)) t ≡ true =
            rw (after-drift drift h w.step, x.is) (fresh x.place x.below) in
            counted-by-newest c t j (omega (arith, m, st.to)) (rw s at u)

        counted : min w.step w.count ≤ count_then c t
        unfolding count_of
        counted =
            many-first (counted_in (spans_then c t)) (min w.step w.count) 8 (omega (arith, st.to))
            (λ j l. answered j (omega arith) (omega arith))

        -- (5)
        pub walk-tells : {T : ℕ → ℕ} {lies : ℕ → Bool} → World drift h w.step T lies → (f : ℕ)
            → liars c t lies ≤ f → f < min w.step w.count → number (answer_of c t f) ≡ 0
        walk-tells y f few more = never-refused y t f few in-time (omega (arith, more, counted))
