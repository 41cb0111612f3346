-- Where the signatures of a walk verify, they do so by the keys that stand in its records: our own Ed25519 answers yes
-- to all of the pile.
use Rattle.std.specs.Prelude.{Err, Ok}
use Prim.Native.Nat.{ℕ, ◌+◌, ◌*◌, ◌/◌, ◌%◌, ◌≤◌, ◌<◌}
use mathlib.Core.Path.{◌≡◌, refl, sym, subst, ap, ◌∙◌}
use mathlib.Core.Bool.{Bool, true, false, cond}
use mathlib.Core.List.{List}
use mathlib.Core.Logic.{⊎_elim}
use native.Mathlib.Nat.{eq-or-lt_of_le}
use native.Mathlib.Omega.{arith}
use lib.Dec.{eqb}
use lib.ListN.{length, length-replicate, get_or-replicate}
use lib.Seq.{ext_get_or}
use Rattle.pile.specs.Pile.{records_in, record_at, key_in, response_packet}
use Rattle.pile_signed.specs.OwnAnswers.{answer_byte, own_answers}
use Rattle.pile_signed.proofs.Own.{own_answer, own-length, own_at}
use Rattle.walk.specs.State.{key_of}
use Rattle.walk.specs.Starting.{begun_walk}
use Rattle.walk.specs.Standing.{InStep}
use Rattle.walk.specs.Taking.{recorded, moved_on, all_yes}
use Rattle.walk.specs.Trace.{Reached}
use Rattle.walk.specs.Trace.Reached.{begun, took}
use Rattle.walk.specs.declared.Walk.{Walk}
use Rattle.walk.specs.declared.Heard.{Heard}
use Rattle.walk.specs.declared.Said.TheVariants.{Next, Ended}
use Rattle.walk.proofs.Accepting.{Accepted, accepted}
use Rattle.walk.proofs.Standing.{standing, before, here, stands-long, stands-more, now-response}
use Rattle.walk_laws.specs.Verified.{Verifies, AllVerify}

-- the response in the record r verifies under the key in it
abbrev InRecord : List ℕ → Type 0
InRecord r = Verifies (key_in r) (response_packet r)

-- ---- the records of a walk

module _ (keys nonce : List ℕ) (most : ℕ) (n32 : length nonce ≡ 32) where
  -- one accepted response more
  module _
      (w : Walk) (b : List ℕ) (st : InStep keys nonce most w b) (h : Heard) (x : List ℕ)
      (a : Accepted w h x (length b)) (rl : length h.rand ≡ 32) (v : Verifies (key_of w) x)
      (those : (k : ℕ) → k < w.step → InRecord (record_at b k)) where
    this : InRecord (record_at (recorded w x b) w.step)
    unfolding moved_on key_of
    this =
        let at = here keys nonce most w b st h x a rl in
        let key = ((stands-more keys nonce most w b st h x a rl).entries w.step (omega arith)).keyed in
        let response =
        ap response_packet at ∙ now-response w h x (length b) a (stands-long keys nonce most w b st) in
        rw (key, response) v

    these-more : (k : ℕ) → k < w.step + 1 → InRecord (record_at (recorded w x b) k)
    these-more k l =
        let u : k ≤ w.step = omega arith in
        ⊎_elim (λ e. subst (λ (i : ℕ). InRecord (record_at (recorded w x b) i)) (sym e) this)
        (λ m. rw (before keys nonce most w b st h x a rl k m) (those k m)) (eq-or-lt_of_le u)

  pub in-records : (w : Walk) (b : List ℕ) (way : Reached keys nonce most w b) → AllVerify way
      → (k : ℕ) → k < w.step → InRecord (record_at b k)
  unfolding AllVerify begun_walk moved_on
  in-records w b (begun c e) v k l = absurd (omega arith)
  in-records w b (took u c h x (Ok (Next o)) way rl t) v k l =
      these-more u c (standing keys nonce most n32 u c way) h x (accepted u h x (length c) refl t.0) rl v.1
      (λ m g. in-records u c way v.0 m g) k l
  in-records w b (took u c h x (Ok (Ended o r)) way rl t) v k l =
      these-more u c (standing keys nonce most n32 u c way) h x (accepted u h x (length c) refl t.0) rl v.1
      (λ m g. in-records u c way v.0 m g) k l
  in-records w b (took u c h x (Err why) way rl t) v k l = in-records u c way v k l

-- ---- the answers of a pile whose n records all verify

module _
    (pile : List ℕ) (n : ℕ) (many : records_in pile ≡ n) (all : (k : ℕ) → k < n → InRecord (record_at pile k)) where
  either_way : (b : Bool) → answer_byte (cond b true true) ≡ 1
  either_way true = refl
  either_way false = refl

  both-say : (b : Bool) {d s : Bool} → d ≡ true → s ≡ true → answer_byte (cond b d s) ≡ 1
  both-say b e f = rw (e, f) (either_way b)

  yes-at : (i : ℕ) → i < 2 * n → own_answer pile i ≡ 1
  unfolding own_answer
  yes-at i h =
      let v = all (i / 2) (omega arith) in
      both-say (eqb (i % 2) 0) v.delegation v.signature

  pub all_yes_lem : own_answers pile ≡ all_yes n
  all_yes_lem =
      let l : length (own_answers pile) ≡ 2 * n = own-length pile ∙ ap (λ (m : ℕ). 2 * m) many in
      ext_get_or 0 (own_answers pile) (all_yes n) (l ∙ sym (length-replicate {A = ℕ} (2 * n) 1))
      (λ i u.
      let m : i < 2 * n = omega arith in
      own_at pile i (omega (arith, many)) ∙ yes-at i m ∙ sym (get_or-replicate (2 * n) i 1 0 m))
