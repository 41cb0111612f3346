-- How a clean run grows, and why it is enough to compare the two ends of a run: the least run that convicts is the
-- least clean run whose ends contradict.
use Rattle.check_response.specs.declared.Window.{Window}
use Rattle.refusal.specs.declared.Refusal.{Refusal}
use Rattle.std.specs.Prelude.{Result}
use mathlib.Core.Path.{◌≡◌, sym, subst}
use mathlib.Core.Bool.{Bool}
use mathlib.Core.Logic.{⊎_elim}
use Prim.Native.Nat.{ℕ, ◌<◌, ◌+◌, ◌-◌, ◌≤◌}
use native.Mathlib.Nat.{eq-or-lt_of_le}
use native.Mathlib.Omega.{arith}
use lib.Dec.{T}
use Rattle.laws.specs.Pairs.{IsLeast, Hits}
use Rattle.pile_runs.proofs.Passed.{Passed}
use Rattle.pile_runs.specs.Clash.{valid}
use Rattle.pile_runs.specs.Convict.{Clean, Convicts}
use Rattle.pile_runs.specs.Searched.{Exposes}

module _ (v : ℕ → Result Window Refusal) (linked : ℕ → Bool) where
  -- a run of one record
  pub clean-one : (a : ℕ) → T (valid (v a)) → Clean v linked a a
  clean-one a h = record {
    all_valid = λ k l u. let e : a ≡ k = omega arith in subst (λ (i : ℕ). T (valid (v i))) e h;
    all-linked = λ k l u. absurd (omega arith);
  }

  -- a run with one record more
  pub clean-more : (a b : ℕ) → Clean v linked a b → T (valid (v (b + 1))) → T (linked (b + 1))
      → Clean v linked a (b + 1)
  clean-more a b c h w = record {
    all_valid = λ k l u. ⊎_elim
        (λ e. subst (λ (i : ℕ). T (valid (v i))) (sym e) h) (λ m. c.all_valid k l (omega arith)) (eq-or-lt_of_le u);
    all-linked = λ k l u. ⊎_elim
        (λ e. subst (λ (i : ℕ). T (linked i)) (sym e) w) (λ m. c.all-linked k l (omega arith)) (eq-or-lt_of_le u);
  }

  -- a part of a run
  pub clean-part : (a b i j : ℕ) → Clean v linked a b → a ≤ i → j ≤ b → Clean v linked i j
  clean-part a b i j c l u = record {
    all_valid = λ k m n. c.all_valid k (omega arith) (omega arith);
    all-linked = λ k m n. c.all-linked k (omega arith) (omega arith);
  }

  -- a clean run whose ends contradict convicts,
  exposed : (n a b : ℕ) → Hits (Exposes v linked) n a b → Convicts v linked n a b
  exposed n a b h = record {
    inside = h.inside;
    clean = h.holds.clean;
    i = a;
    j = b;
    from = omega arith;
    order = h.order;
    to = omega arith;
    clash = h.holds.clash;
  }

  -- and a run that convicts has such a run in it
  exposing : (n a b : ℕ) (c : Convicts v linked n a b) → Hits (Exposes v linked) n c.i c.j
  exposing n a b c = record {
    order = c.order;
    inside = omega (arith, c.inside, c.to);
    holds = record { clean = clean-part a b c.i c.j c.clean c.from c.to; clash = c.clash };
  }

-- so the least clean run whose ends contradict is the least that convicts,
pub least-run : {v : ℕ → Result Window Refusal} {linked : ℕ → Bool} {n a b : ℕ}
    → IsLeast (Hits (Exposes v linked) n) a b → IsLeast (Convicts v linked n) a b
least-run {v} {linked} {n} {a} {b} m = record {
  holds = exposed v linked n a b m.holds;
  shortest = λ p q c. omega (arith, m.shortest c.i c.j (exposing v linked n p q c), c.from, c.order, c.to);
  first = λ p q c e.
      let s = m.shortest c.i c.j (exposing v linked n p q c) in
      let f : c.j - c.i ≡ b - a = omega (arith, c.from, c.order, c.to) in
      omega (arith, m.first c.i c.j (exposing v linked n p q c) f, c.from, c.order, c.to);
}

-- the other way round too,
pub least-ends : {v : ℕ → Result Window Refusal} {linked : ℕ → Bool} {n a b : ℕ}
    → IsLeast (Convicts v linked n) a b → IsLeast (Hits (Exposes v linked) n) a b
least-ends {v} {linked} {n} {a} {b} m =
    let c = m.holds in
    let h = exposing v linked n a b c in
    let s = m.shortest c.i c.j (exposed v linked n c.i c.j h) in
    let p : c.i ≡ a = omega (arith, c.from, c.order, c.to) in
    let q : c.j ≡ b = omega (arith, c.from, c.order, c.to) in
    record {
      holds = rw (p, q) at h;
      shortest = λ i j x. m.shortest i j (exposed v linked n i j x);
      first = λ i j x. m.first i j (exposed v linked n i j x);
    }

-- and where no clean run has ends that contradict, no run convicts
pub no_run : {v : ℕ → Result Window Refusal} {linked : ℕ → Bool} {n : ℕ} → ((a b : ℕ) → Hits (Exposes v linked) n a b → ⊥)
    → (a b : ℕ) → Convicts v linked n a b → ⊥
no_run {v} {linked} {n} none a b c = none c.i c.j (exposing v linked n a b c)

-- the search, once it knows the first start of a run that is d long
pub along : {Q : ℕ → ℕ → Type 0} {n d i : ℕ} → Passed Q n d 0 → ((k : ℕ) → k < i → Q k (k + d) → ⊥) → Passed Q n d i
along p f = record { some = p.some; apart = p.apart; row = f }
