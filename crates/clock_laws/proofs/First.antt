-- The newest window of a server, and that a server of which one is used is counted.
use mathlib.Core.Path.{◌≡◌, refl, sym, ap, ◌∙◌, subst}
use mathlib.Core.Bool.{Bool, true, false, cond, ◌||◌, true≢false}
use mathlib.Core.Logic.{⊎_elim}
use Prim.Native.Nat.{ℕ, zero, suc, ◌≤◌, ◌<◌}
use native.Mathlib.Nat.{eq-or-lt_of_le, le_of_suc-le-suc}
use native.Mathlib.Omega.{arith}
use lib.Dec.{eqb}
use borrow.Author.Tests.{eqb-true, eqb-false}
use Rattle.laws.proofs.First.{at_most, is-empty}
use Rattle.refusal.specs.Refusal.{refusal, refusals}
use Rattle.refusal.specs.declared.Refusal.{Refusal}
use Rattle.clock_spans.specs.Spans.{low_at, high_at, used_at, unknown, span_at, server_span}
use Rattle.clock_spans.specs.declared.Kept.{Kept}
use Rattle.clock_spans.specs.declared.Span.{Span}
use Rattle.clock_agreement.specs.Many.{many}
use Rattle.clock_agreement.specs.Count.{counted_in}
use Rattle.clock.specs.State.{newest, take_code, keeping}
use Rattle.clock.specs.Used.{counting_at, span_of}
use Rattle.clock.specs.Meaning.{spans_then}
use Rattle.clock.specs.declared.Clock.{Clock}
use Rattle.clock.proofs.Places.{at-server}
use Rattle.clock.proofs.Takes.{Takeable, takeable}
use Rattle.clock_laws.specs.History.{Heard, after, IsTaken}
use Rattle.clock_laws.proofs.Places.{kept-newest, newest-stays, taken-or-left}
use Rattle.clock_laws.proofs.Taking.{after-shaped}

-- where the first m places pass a test, as many pass it
pub many-first : (p : ℕ → Bool) (m n : ℕ) → m ≤ n → ((j : ℕ) → j < m → p j ≡ true) → m ≤ many p n
unfolding many
many-first p m zero h y = h
many-first p m (suc n) h y =
    ⊎_elim
    (λ e.
    let k : p n ≡ true = y n (omega (arith, e)) in
    rw k (omega (arith, e, many-first p n n (omega arith) (λ j l. y j (omega (arith, e))))))
    (λ l. omega (arith, many-first p m n (le_of_suc-le-suc l) y))
    (eq-or-lt_of_le h)

-- a window that can be taken is
pub takes : (c : Clock) (s : ℕ) (w : Kept) → Takeable c s w → (take_code c s w).code ≡ 0
unfolding take_code
takes c s w h =
    sym
    (ap (λ (x : Refusal). x.code)
    (at_most refusals 7 s (refusal 32) _ (omega (arith, h.one))
    (at_most refusals w.received w.sent (refusal 26) _ h.after-sent
    (at_most refusals w.received (newest c s).received (refusal 26) _ h.after_last (is-empty refusals refl)))))

-- the newest window of server j is one of the first n
pub record NewestOf (c : Clock) (h : ℕ → Heard) (n j : ℕ) : Type 0 where
  pub place : ℕ
  pub below : place < n
  pub is : newest c j ≡ (h place).window

module _ (drift : ℕ) (h : ℕ → Heard) where
  -- that of a server of which one was taken is
  pub newest-is : (n k : ℕ) → k < n → IsTaken drift h k → NewestOf (after drift h n) h n (h k).server
  unfolding after
  newest-is zero k l z = absurd (omega arith)
  newest-is (suc n) k l z =
      taken-or-left (λ (d : Clock). NewestOf d h (suc n) (h k).server) c s w
      (λ q. kept (λ m. newest-is n k m z) q (eqb s (h k).server) refl)
      (λ q. wider (earlier (λ m. newest-is n k m z) (λ e. q (subst (λ (i : ℕ). IsTaken drift h i) e z))))
    where
      c : Clock
      c = after drift h n

      s : ℕ
      s = (h n).server

      w : Kept
      w = (h n).window

      wider : {d : Clock} {j : ℕ} → NewestOf d h n j → NewestOf d h (suc n) j
      wider x = record { place = x.place; below = omega (arith, x.below); is = x.is }

      earlier : (k < n → NewestOf c h n (h k).server) → (k ≡ n → ⊥) → NewestOf c h n (h k).server
      earlier f e = ⊎_elim (λ q. absurd (e q)) f (eq-or-lt_of_le (le_of_suc-le-suc l))

      kept : (k < n → NewestOf c h n (h k).server) → (take_code c s w).code ≡ 0 → (b : Bool) → eqb s (h k).server ≡ b
          → NewestOf (keeping c s w) h (suc n) (h k).server
      kept f q true e =
          let p = eqb-true s (h k).server e in
          record {
            place = n;
            below = omega arith;
            is =
                subst (λ (j : ℕ). newest (keeping c s w) j ≡ w) p
                (kept-newest c s w (after-shaped drift h n) (takeable c s w q).one);
          }
      kept f q false e =
          let m : s ≡ (h k).server → ⊥ = eqb-false s (h k).server e in
          let x = earlier f (λ g. m (ap (λ (i : ℕ). (h i).server) (sym g))) in
          record {
            place = x.place;
            below = omega (arith, x.below);
            is = newest-stays c s w (h k).server m ∙ x.is;
          }

-- ---- a server of which the newest window is used is counted

-- a window's span is counted where it is used
span-counted : (drift t counting : ℕ) (w : Kept) → (span_at drift t counting w).counted ≡ used_at drift w t
unfolding span_at
span-counted drift t counting w = by (used_at drift w t)
  where
    some : Span
    some = record { counted = true; low = low_at drift w counting; high = high_at drift w counting }

    by : (b : Bool) → (cond b some unknown).counted ≡ b
    by true = refl
    by false = refl

either_true : (a b : Bool) → a ≡ true → (a || b) ≡ true
either_true true b e = refl
either_true false b e = absurd (true≢false (sym e))

pub counted-by-newest : (c : Clock) (t s : ℕ) → s < 8 → used_at c.drift (newest c s) t ≡ true
    → counted_in (spans_then c t) s ≡ true
unfolding span_of server_span
counted-by-newest c t s l u =
    ap (λ (r : Span). r.counted) (at-server c t (counting_at c t) s l)
    ∙ either_true _ _ (span-counted c.drift t (counting_at c t) (newest c s) ∙ u)
