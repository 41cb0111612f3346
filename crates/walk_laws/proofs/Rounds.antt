-- Where a walk ends, every server's key stands in just two records of its pile; of 8 servers they are 16 records.
use Rattle.refusal.specs.declared.Refusal.{Refusal}
use Rattle.std.specs.Prelude.{Err, Ok, Result}
use Prim.Native.Nat.{ℕ, ◌+◌, ◌-◌, ◌*◌, ◌≤◌, ◌<◌}
use mathlib.Core.Path.{◌≡◌, refl, sym, ap, subst, ◌∙◌}
use mathlib.Core.Bool.{Bool, true, false}
use mathlib.Core.List.{List}
use mathlib.Core.Logic.{◌⊎◌, inl, inr, ⊎_elim}
use native.Mathlib.Nat.{add_comm}
use native.Mathlib.Omega.{arith}
use borrow.Author.Tests.{ltb-true, ltb-false}
use lib.Dec.{ltb}
use lib.ListN.{length, take}
use Rattle.laws.specs.Same.{same}
use Rattle.laws.proofs.Same.{same_refl}
use Rattle.pile.specs.Pile.{record_at, key_in}
use Rattle.check_response.specs.declared.Window.{Window}
use Rattle.walk.specs.State.{key_at}
use Rattle.walk.specs.Starting.{servers_in, twice}
use Rattle.walk.specs.Taking.{recorded, moved_on, pile_of, Takes}
use Rattle.walk.specs.Trace.{Reached, heard}
use Rattle.walk.specs.Trace.Reached.{begun, took}
use Rattle.walk.specs.declared.Walk.{Walk}
use Rattle.walk.specs.declared.Heard.{Heard}
use Rattle.walk.specs.declared.Said.TheVariants.{Next, Ended}
use Rattle.walk.proofs.Accepting as accepting
use Rattle.walk.proofs.Accepting.{accepted}
use Rattle.walk.proofs.Codes.{twice-exactly}
use Rattle.walk.proofs.Ending.{ends_with, first_round, second-round}
use Rattle.walk.proofs.History.{holds}
use Rattle.walk.proofs.Standing.{standing}
use Rattle.walk_laws.specs.Rounds.{TwoRounds}

-- no key stands twice among those of a walk that was begun,
none-twice : {keys nonce : List ℕ} {most : ℕ} {w : Walk} {b : List ℕ} → Reached keys nonce most w b
    → twice keys (servers_in keys) ≡ false
none-twice {keys} (begun b e) = (accepting.begun keys (length b) refl e).differ
none-twice (took w b h response (Ok (Next o)) way l t) = none-twice way
none-twice (took w b h response (Ok (Ended o r)) way l t) = none-twice way
none-twice (took w b h response (Err why) way l t) = none-twice way

-- so that a key is of one server only
module _ (keys : List ℕ) (n : ℕ) (once : twice keys n ≡ false) where
  not-later : (i j : ℕ) → i < j → j < n → key_at keys i ≡ key_at keys j → ⊥
  not-later i j l u e =
      let f = (twice-exactly keys n).0 once i j l u in
      let g : same (key_at keys i) (key_at keys j) ≡ true
      = ap (same (key_at keys i)) (sym e) ∙ same_refl (key_at keys i) in
      let z : ◌≡◌ {A = ℕ} 0 1 = cc in omega arith

  one-server : (i j : ℕ) → i < n → j < n → key_at keys i ≡ key_at keys j → i ≡ j
  one-server i j a b e =
      let above : i < j → ⊥ = λ l. not-later i j l b e in
      let below : j < i → ⊥ = λ l. not-later j i l a (sym e) in
      omega arith

first-or-second : (m n : ℕ) → (m < n) ⊎ (n ≤ m)
first-or-second m n = by (ltb m n) refl
  where
    by : (x : Bool) → ltb m n ≡ x → (m < n) ⊎ (n ≤ m)
    by true e = inl (ltb-true m n e)
    by false e = inr (ltb-false m n e)

-- ---- of the call that ends a walk from a start,

module _
    (keys nonce : List ℕ) (most : ℕ) (n32 : length nonce ≡ 32) (w : Walk) (b : List ℕ)
    (way : Reached keys nonce most w b) (h : Heard) (response : List ℕ) (rl : length h.rand ≡ 32) (o : Window)
    (r : Result (ℕ × ℕ) (Refusal × ℕ)) (t : Takes w h response b (Ok (Ended o r))) where
  abbrev left : List ℕ
  left = pile_of (2 * w.count) (recorded w response b)

  servers : w.count ≡ servers_in keys
  servers = (standing keys nonce most n32 w b way).counted

  one_key : (i j : ℕ) → i < w.count → j < w.count → key_at keys i ≡ key_at keys j → i ≡ j
  one_key = one-server keys w.count (rw servers (none-twice way))

  in-first : (k : ℕ) → k < w.count → key_in (record_at left k) ≡ key_at keys k
  in-first = first_round keys nonce most n32 w b way h response rl o r t

  in-second : (k : ℕ) → k < w.count → key_in (record_at left (k + w.count)) ≡ key_at keys k
  in-second k l =
      ap (λ (m : ℕ). key_in (record_at left m)) (add_comm k w.count)
      ∙ second-round keys nonce most n32 w b way h response rl o r t k l

  same_first : (k m : ℕ) → k < w.count → m < w.count → key_in (record_at left m) ≡ key_at keys k → m ≡ k
  same_first k m l i e = one_key m k i l (sym (in-first m i) ∙ e)

  same_second : (k m : ℕ) → k < w.count → w.count ≤ m → m < 2 * w.count → key_in (record_at left m) ≡ key_at keys k
      → m - w.count ≡ k
  same_second k m l i u e =
      let d : m - w.count < w.count = omega arith in
      let there : m - w.count + w.count ≡ m = omega arith in
      one_key (m - w.count) k d l
      (sym (in-second (m - w.count) d) ∙ ap (λ (x : ℕ). key_in (record_at left x)) there ∙ e)

  -- the pile that a walk leaves is that of two rounds,
  pub ends-in-two-rounds : TwoRounds keys w.count left
  ends-in-two-rounds = record {
    two-each = ends_with keys nonce most n32 w b way h response rl o r t;
    first = in-first;
    second = in-second;
    no_other = λ k m l u e.
        ⊎_elim (λ i. inl (same_first k m l i e)) (λ i. inr (omega (arith, same_second k m l i u e)))
        (first-or-second m w.count);
  }

  -- of as many responses as were accepted,
  pub all-heard : length (heard (took w b h response (Ok (Ended o r)) way rl t)) ≡ 2 * w.count
  unfolding moved_on
  all-heard =
      let a = accepted w h response (length b) refl t.0 in
      (holds keys nonce most n32 (moved_on w h response) (recorded w response b)
      (took w b h response (Ok (Ended o r)) way rl t)).many
      ∙ omega (arith, a.goes.inside, t.1.0)

  -- and with 8 servers, whose keys are 256 bytes, they are 16
  pub sixteen-for-eight : length keys ≡ 256
      → (length (heard (took w b h response (Ok (Ended o r)) way rl t)) ≡ 16)
      × (pile_of (2 * w.count) (recorded w response b) ≡ take 65536 (recorded w response b))
      × TwoRounds keys 8 (take 65536 (recorded w response b))
  sixteen-for-eight l =
      let e : w.count ≡ 8 = servers ∙ omega (arith, l) in (
        all-heard ∙ ap (λ (n : ℕ). 2 * n) e,
        ap (λ (n : ℕ). pile_of (2 * n) (recorded w response b)) e,
        subst (λ (n : ℕ). TwoRounds keys n (pile_of (2 * n) (recorded w response b))) e ends-in-two-rounds,
      )
