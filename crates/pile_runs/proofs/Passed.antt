-- The search by distance and then by start, for two places below n of which any relation Q holds: what is known when it
-- has come so far, and how that grows.
-- `Passed` is a record, so that antt reads Q, n, d and i off it and no law below takes them.
use mathlib.Core.Path.{◌≡◌, sym, subst}
use mathlib.Core.Logic.{⊎_elim}
use Prim.Native.Nat.{ℕ, ◌+◌, ◌-◌, ◌≤◌, ◌<◌}
use native.Mathlib.Nat.{eq-or-lt_of_le}
use native.Mathlib.Omega.{arith, by_contra}
use borrow.Author.Count.{below_more}
use Rattle.laws.specs.Pairs.{IsLeast, Hits}

-- every pair of which Q holds is at least d apart, and of those that are d apart none starts below i
pub record Passed (Q : ℕ → ℕ → Type 0) (n d i : ℕ) : Type 0 where
  pub some : 0 < d
  pub apart : (p q : ℕ) → Hits Q n p q → d ≤ q - p
  pub row : (k : ℕ) → k < i → Q k (k + d) → ⊥

-- nothing has been passed
pub begin : {Q : ℕ → ℕ → Type 0} {n : ℕ} → Passed Q n 1 0
begin = record { some = omega arith; apart = λ p q h. omega (arith, h.order); row = λ k l q. omega arith }

-- one start more
pub step : {Q : ℕ → ℕ → Type 0} {n d i : ℕ} → Passed Q n d i → (Q i (i + d) → ⊥) → Passed Q n d (i + 1)
step {Q} {n} {d} {i} s here =
    record { some = s.some; apart = s.apart; row = below_more (λ (k : ℕ). Q k (k + d) → ⊥) i s.row here }

module _ {Q : ℕ → ℕ → Type 0} {n d i : ℕ} (s : Passed Q n d i) where
  -- a pair of which Q holds and that is d apart starts at i or later
  from : (p q : ℕ) → Hits Q n p q → q - p ≡ d → i ≤ p
  from p q h e =
      let f : q ≡ p + d = omega (arith, h.order) in
      by_contra i p (λ l. s.row p l (subst (λ (k : ℕ). Q p k) f h.holds))

  -- no start is left at the distance d
  pub next : n ≤ i + d → Passed Q n (d + 1) 0
  next l = record {
    some = omega arith;
    apart = λ p q h. ⊎_elim
        (λ e. absurd (omega (arith, from p q h (sym e), h.order, h.inside)))
        (λ m. omega arith)
        (eq-or-lt_of_le (s.apart p q h));
    row = λ k u q. omega arith;
  }

  -- no distance is left
  pub nothing : n ≤ d → (p q : ℕ) → Hits Q n p q → ⊥
  nothing l p q h = omega (arith, s.apart p q h, h.order, h.inside)

  -- Q holds here
  pub found : i + d < n → Q i (i + d) → IsLeast (Hits Q n) i (i + d)
  found l q = record {
    holds = record { order = omega (arith, s.some); inside = l; holds = q };
    shortest = λ p r h. omega (arith, s.apart p r h);
    first = λ p r h e. from p r h (omega arith);
  }
