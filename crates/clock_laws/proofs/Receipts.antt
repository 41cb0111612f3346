-- A moment is before a receipt that is kept exactly where it is before that of a window that was ever taken: of each
-- server the newest window that is kept has the latest receipt.
use mathlib.Core.Path.{◌≡◌, refl, sym, subst}
use mathlib.Core.Bool.{Bool, true, false}
use mathlib.Core.Logic.{⊎_elim, ◌↔◌}
use Prim.Native.Nat.{ℕ, zero, suc, ◌+◌, ◌*◌, ◌≤◌, ◌<◌}
use native.Mathlib.Nat.{eq-or-lt_of_le, le_of_suc-le-suc}
use native.Mathlib.Omega.{arith}
use lib.Dec.{eqb, ltb}
use borrow.Author.Tests.{eqb-true, eqb-false, ltb-true, lt-ltb}
use Rattle.laws.proofs.Least.{somewhere-at, somewhere-here}
use Rattle.laws.specs.Least.{least}
use Rattle.clock_spans.specs.declared.Kept.{Kept}
use Rattle.clock.specs.State.{kept_in, newest, take_code, keeping, taken_of, next_of}
use Rattle.clock.specs.Used.{too_early}
use Rattle.clock.specs.declared.Clock.{Clock}
use Rattle.clock.proofs.Takes.{takeable}
use Rattle.clock_laws.specs.History.{Heard, after, IsTaken, HeardLater}
use Rattle.clock_laws.proofs.Places.{Shaped, kept-newest, kept-older, kept-other, newest-stays, start-blank}
use Rattle.clock_laws.proofs.Places.{taken-or-left}
use Rattle.clock_laws.proofs.Taking.{after-shaped}

-- ---- one window more

module _ (c : Clock) (shape : Shaped c) (s : ℕ) (w : Kept) (z : (take_code c s w).code ≡ 0) where
  one : s < 8
  one = (takeable c s w z).one

  -- a receipt that is not after it, and not after the newest of another server
  kept-latest : (x j : ℕ) → (s ≡ j → x ≤ w.received) → ((s ≡ j → ⊥) → x ≤ (newest c j).received)
      → x ≤ (newest (keeping c s w) j).received
  kept-latest x j f g = by (eqb s j) refl
    where
      by : (b : Bool) → eqb s j ≡ b → x ≤ (newest (keeping c s w) j).received
      by true q =
          let p = eqb-true s j q in
          subst (λ (i : ℕ). x ≤ (newest (keeping c s w) i).received) p
          (subst (λ (k : Kept). x ≤ k.received) (sym (kept-newest c s w shape one)) (f p))
      by false q =
          let n : s ≡ j → ⊥ = eqb-false s j q in
          subst (λ (k : Kept). x ≤ k.received) (sym (newest-stays c s w j n)) (g n)

  -- what is kept in a place is it, or stood in a place before
  kept_from : (P : Kept → Type 0) (i : ℕ) → i < 16 → P w → ((k : ℕ) → k < 16 → P (kept_in c k))
      → P (kept_in (keeping c s w) i)
  kept_from P i l p q = by (eqb i (2 * s)) (eqb i (2 * s + 1)) refl refl
    where
      by : (a b : Bool) → eqb i (2 * s) ≡ a → eqb i (2 * s + 1) ≡ b → P (kept_in (keeping c s w) i)
      by true b e f =
          subst (λ (k : ℕ). P (kept_in (keeping c s w) k)) (sym (eqb-true i (2 * s) e))
          (subst P (sym (kept-newest c s w shape one)) p)
      by false true e f =
          subst (λ (k : ℕ). P (kept_in (keeping c s w) k)) (sym (eqb-true i (2 * s + 1) f))
          (subst P (sym (kept-older c s w shape one)) (q (2 * s) (omega (arith, one))))
      by false false e f =
          subst P (sym (kept-other c s w i (eqb-false i (2 * s) e) (eqb-false i (2 * s + 1) f))) (q i l)

-- ---- all of them

module _ (drift : ℕ) (h : ℕ → Heard) where
  -- the newest window of a server was received no earlier than any that was taken of it
  newest-latest : (n k : ℕ) → k < n → IsTaken drift h k
      → (h k).window.received ≤ (newest (after drift h n) (h k).server).received
  unfolding after
  newest-latest zero k l z = absurd (omega arith)
  newest-latest (suc n) k l z =
      ⊎_elim
      (λ e.
      subst
      (λ (i : ℕ). (h i).window.received ≤ (newest (after drift h (suc n)) (h i).server).received) (sym e)
      (last (subst (λ (i : ℕ). IsTaken drift h i) e z)))
      (λ m. before (newest-latest n k m z))
      (eq-or-lt_of_le (le_of_suc-le-suc l))
    where
      c : Clock
      c = after drift h n

      s : ℕ
      s = (h n).server

      w : Kept
      w = (h n).window

      last : IsTaken drift h n → w.received ≤ (newest (next_of c (taken_of c s w)) s).received
      last y =
          taken-or-left (λ (d : Clock). w.received ≤ (newest d s).received) c s w
          (λ q. kept-latest c (after-shaped drift h n) s w q w.received s (λ e. omega arith) (λ e. absurd (e refl)))
          (λ q. absurd (q y))

      before : (h k).window.received ≤ (newest c (h k).server).received
          → (h k).window.received ≤ (newest (next_of c (taken_of c s w)) (h k).server).received
      before y =
          let x = (h k).window.received in
          let j = (h k).server in
          taken-or-left (λ (d : Clock). x ≤ (newest d j).received) c s w
          (λ q.
          kept-latest c (after-shaped drift h n) s w q x j
          (λ e.
          let u : x ≤ (newest c s).received = subst (λ (i : ℕ). x ≤ (newest c i).received) (sym e) y in
          omega (arith, u, (takeable c s w q).after_last))
          (λ e. y))
          (λ q. y)

  -- and each window that is kept was taken
  pub kept-heard : (t n i : ℕ) → i < 16 → t < (kept_in (after drift h n) i).received → HeardLater drift h n t
  unfolding after
  kept-heard t zero i l m =
      absurd
      (omega (arith, subst (λ (k : Kept). t < k.received) (start-blank drift i l) m))
  kept-heard t (suc n) i l m =
      taken-or-left (λ (d : Clock). t < (kept_in d i).received → HeardLater drift h (suc n) t) c s w
      (λ q.
      kept_from c (after-shaped drift h n) s w q
      (λ (k : Kept). t < k.received → HeardLater drift h (suc n) t) i l
      (λ y. record { place = n; below = omega arith; taken = q; later = y })
      (λ k b y. wider (kept-heard t n k b y)))
      (λ q y. wider (kept-heard t n i l y))
      m
    where
      c : Clock
      c = after drift h n

      s : ℕ
      s = (h n).server

      w : Kept
      w = (h n).window

      wider : HeardLater drift h n t → HeardLater drift h (suc n) t
      wider x = record { place = x.place; below = omega (arith, x.below); taken = x.taken; later = x.later }

  pub early-exactly : (n t : ℕ) → too_early (after drift h n) t ≡ true ↔ HeardLater drift h n t
  unfolding too_early
  early-exactly n t = (
    λ e.
        let x = somewhere-at p 16 e in
        kept-heard t n (least p 16) x.0 (ltb-true t _ x.1),
    λ x.
        let s = (takeable _ _ _ x.taken).one in
        somewhere-here p 16 (2 * (h x.place).server) (omega (arith, s))
        (lt-ltb t _ (omega (arith, x.later, newest-latest n x.place x.below x.taken))),
  )
    where
      p : ℕ → Bool
      p = λ i. ltb t ((kept_in (after drift h n) i).received)
