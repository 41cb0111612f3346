-- What is agreed on, as code finds out. Code has the number of servers as k, the least point as from, and the number of
-- spans that hold it as depth.
use Rattle.std.specs.Prelude.{Err, Ok}
use mathlib.Core.Path.{◌≡◌, refl, sym, ap, ap₂, ◌∙◌}
use mathlib.Core.Bool.{Bool, true, false, true≢false}
use mathlib.Core.List.{List}
use Prim.Native.Nat.{ℕ, ◌-◌, ◌≤◌, ◌<◌, min}
use native.Mathlib.Omega.{arith}
use borrow.Author.Tests.{le-leb, lt-leb}
use Rattle.laws.specs.Least.{least, somewhere}
use Rattle.laws.proofs.Least.{somewhere-at, somewhere-here}
use Rattle.refusal.specs.Refusal.{refusal}
use Rattle.refusal.specs.declared.Refusal.{Refusal}
use Rattle.clock_spans.specs.Drift.{last}
use Rattle.clock_spans.specs.declared.Span.{Span}
use Rattle.clock_agreement.specs.Many.{set_of}
use Rattle.clock_agreement.specs.Count.{points, count_of, depth_of, enough, agreeing, suspect, lowest_of, highest_of}
use Rattle.clock_agreement.specs.Agreement.{agreed_on, agreement_of}
use Rattle.clock_agreement.specs.declared.Agreed.{Agreed}

module _ (rs : List Span) (n : ℕ) where
  -- the least point is one that n spans hold, if any is
  lowest-holds : somewhere (enough rs n) points ≡ true → enough rs n (lowest_of rs n) ≡ true
  unfolding lowest_of
  lowest-holds e =
      let s = somewhere-at (enough rs n) points e in
      let m : min last (least (enough rs n) points) ≡ least (enough rs n) points = omega (arith, s.0) in
      ap (enough rs n) m ∙ s.1

  lowest-below : lowest_of rs n < points
  unfolding lowest_of
  lowest-below = omega arith

-- what is agreed on, by its fields
fields : {a b k p q i j l m o : ℕ} → a ≡ i → b ≡ j → k ≡ l → p ≡ m → q ≡ o
    → ◌≡◌ {A = Agreed} (record { from = a; to = b; counted = k; agree = p; suspects = q })
    (record { from = i; to = j; counted = l; agree = m; suspects = o })
fields a b c d e = cc

module _ (rs : List Span) (f : ℕ) {k : ℕ} (h : k ≡ count_of rs) where
  pub too_few : {r : Refusal} → k ≤ f → r ≡ refusal 33 → Err r ≡ agreement_of rs f
  unfolding agreement_of
  too_few l e = simp (le-leb (count_of rs) f (rw (← h) l)) (ap Err e)

  module _ (more : f < k) {from depth : ℕ} (e : from ≡ lowest_of rs (k - f)) (g : depth ≡ depth_of rs from) where
    n : ℕ
    n = count_of rs - f

    need : k - f ≡ n
    unfolding n
    need = ap (λ (x : ℕ). x - f) h

    from_is : from ≡ lowest_of rs n
    from_is = e ∙ ap (lowest_of rs) need

    depth_is : depth ≡ depth_of rs (lowest_of rs n)
    depth_is = g ∙ ap (depth_of rs) from_is

    enough-servers : f < count_of rs
    enough-servers = rw (← h) more

    pub no-agreement : {r : Refusal} → depth < k - f → r ≡ refusal 34 → Err r ≡ agreement_of rs f
    unfolding agreement_of n
    no-agreement {r} l q =
        simp (lt-leb (count_of rs) f enough-servers, by (somewhere (enough rs n) points) refl) (ap Err q)
      where
        by : (t : Bool) → somewhere (enough rs n) points ≡ t → t ≡ false
        by false s = refl
        by true s =
            absurd (true≢false (sym (lowest-holds rs n s) ∙ lt-leb n _ (rw (← depth_is, ← need) l)))

    pub agreement : {to agree suspects : ℕ} → k - f ≤ depth → to ≡ highest_of rs (k - f)
        → agree ≡ set_of (agreeing rs from to) 8 → suspects ≡ set_of (suspect rs from to) 8
        → Ok (record { from = from; to = to; counted = k; agree = agree; suspects = suspects }) ≡ agreement_of rs f
    unfolding agreement_of n
    agreement {to = to} l q a s =
        simp (
          lt-leb (count_of rs) f enough-servers,
          somewhere-here (enough rs n) points (lowest_of rs n) (lowest-below rs n)
              (le-leb n _ (rw (← depth_is, ← need) l)),
        )
        (ap Ok (fields refl refl h a s ∙ ap₂ (agreed_on rs) from_is (q ∙ ap (highest_of rs) need)))
