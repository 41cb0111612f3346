-- A server is honest as long as each window that was taken of it is true. So the theorems hold of every state that
-- comes from a start.
use mathlib.Core.Path.{◌≡◌, refl, sym, ap, ◌∙◌, subst}
use mathlib.Core.Bool.{Bool, true, false}
use Prim.Native.Nat.{ℕ, zero, suc, ◌+◌, ◌*◌, ◌<◌}
use native.Mathlib.Omega.{arith}
use lib.Dec.{eqb}
use borrow.Author.Tests.{eqb-true, eqb-false}
use Rattle.clock_spans.specs.declared.Kept.{Kept}
use Rattle.clock.specs.State.{newest, take_code, keeping}
use Rattle.clock.specs.declared.Clock.{Clock}
use Rattle.clock.proofs.Takes.{takeable, taken-drift}
use Rattle.clock_laws.specs.History.{Heard, after, IsTaken, World}
use Rattle.clock_laws.specs.Truth.{IsTrue, Honest, Story}
use Rattle.clock_laws.proofs.Places.{Shaped, kept-newest, kept-older, newest-stays, older-stays, start-blank}
use Rattle.clock_laws.proofs.Places.{start-shaped, taken-shaped, taken-or-left}

abbrev Fine : (ℕ → ℕ) → Kept → Type 0
Fine T w = 0 < w.maxt → IsTrue T w

-- one window more
module _ (T : ℕ → ℕ) (c : Clock) (h : Shaped c) (s : ℕ) (w : Kept) (j : ℕ) (before : Honest T c j) where
  kept-honest : (take_code c s w).code ≡ 0 → (s ≡ j → IsTrue T w) → Honest T (keeping c s w) j
  kept-honest z is = by (eqb s j) refl
    where
      one : s < 8
      one = (takeable c s w z).one

      by : (b : Bool) → eqb s j ≡ b → Honest T (keeping c s w) j
      by true q =
          let p = eqb-true s j q in
          subst (λ (i : ℕ). Honest T (keeping c s w) i) p
          (record {
            now = subst (Fine T) (sym (kept-newest c s w h one)) (λ m. is p);
            then =
                subst (Fine T) (sym (kept-older c s w h one))
                (subst (λ (i : ℕ). Fine T (newest c i)) (sym p) before.now);
          })
      by false q =
          let n : s ≡ j → ⊥ = eqb-false s j q in
          record {
            now = subst (Fine T) (sym (newest-stays c s w j n)) before.now;
            then = subst (Fine T) (sym (older-stays c s w j n)) before.then;
          }

module _ (drift : ℕ) (h : ℕ → Heard) where
  -- the drift that a state allows is that of its start
  pub after-drift : (n : ℕ) → (after drift h n).drift ≡ drift
  unfolding after
  after-drift zero = refl
  after-drift (suc n) = taken-drift (after drift h n) (h n).server (h n).window ∙ after-drift n

  pub after-shaped : (n : ℕ) → Shaped (after drift h n)
  unfolding after
  after-shaped zero = start-shaped drift
  after-shaped (suc n) = taken-shaped (after drift h n) (h n).server (h n).window (after-shaped n)

  honest-after : (T : ℕ → ℕ) (n j : ℕ)
      → ((k : ℕ) → k < n → IsTaken drift h k → (h k).server ≡ j → IsTrue T (h k).window) → j < 8
      → Honest T (after drift h n) j
  unfolding after
  honest-after T zero j y l = record {
    now = subst (Fine T) (sym (start-blank drift (2 * j) (omega arith))) (λ m. absurd (omega (arith, m)));
    then = subst (Fine T) (sym (start-blank drift (2 * j + 1) (omega arith))) (λ m. absurd (omega (arith, m)));
  }
  honest-after T (suc n) j y l =
      let before = honest-after T n j (λ k b. y k (omega arith)) l in
      let c = after drift h n in
      taken-or-left (λ (d : Clock). Honest T d j) c (h n).server (h n).window
      (λ z. kept-honest T c (after-shaped n) (h n).server (h n).window j before z (y n (omega arith) z))
      (λ z. before)

-- so the theorems hold of it
pub story : {drift : ℕ} {h : ℕ → Heard} {n : ℕ} {T : ℕ → ℕ} {lies : ℕ → Bool} → World drift h n T lies
    → Story (after drift h n) T lies
story {drift} {h} {n} {T} {lies} w =
    record {
      drift = rw (after-drift drift h n) w.within;
      honest =
          λ s l q. honest-after drift h T n s (λ k b z e. w.true-windows k b z (ap lies e ∙ q)) l;
    }
