-- The time that is told is right where no more than f of the servers that are counted lie; and where they do not agree,
-- more do. This holds for every true time that the host's clock allows.
use mathlib.Core.Path.{◌≡◌, refl, sym, subst}
use mathlib.Core.Bool.{Bool, true, false, ◌&&◌, true≢false}
use Prim.Native.Nat.{ℕ, ◌+◌, ◌*◌, ◌-◌, ◌≤◌, ◌<◌, min, max}
use native.Mathlib.Omega.{arith, by_contra}
use lib.Dec.{eqb, ltb}
use borrow.Author.Tests.{eqb-true, eqb-false, ltb-true}
use Rattle.laws.proofs.Holds.{both}
use Rattle.clock_spans.specs.Drift.{million, last, low_later, high_later}
use Rattle.clock_spans.specs.declared.Span.{Span}
use Rattle.clock_agreement.specs.Count.{in_span, span_in, counted_in, count_of, depth_of, suspect}
use Rattle.clock_agreement.specs.Meaning.{Agrees, Disagrees}
use Rattle.clock_agreement.specs.declared.Agreed.{Agreed}
use Rattle.clock_agreement.proofs.Inside.{inside}
use Rattle.clock_agreement.proofs.Many.{cover, differs}
use Rattle.clock.specs.Used.{counting_at}
use Rattle.clock.specs.Meaning.{spans_then, count_then, IsTime}
use Rattle.clock.specs.declared.Clock.{Clock}
use Rattle.clock.specs.declared.Time.{Time}
use Rattle.clock_laws.specs.Truth.{Story, liars}
use Rattle.clock_laws.specs.Meaning.{Right, Backed}
use Rattle.clock_laws.proofs.Inside.{told, Between, low-later, high-later, counted-by, honest-in}
use Rattle.clock_laws.proofs.Inside.{before, behind, before-in, behind-in}

-- ends between which what can be told of a time lies are right, if only that they stop is said
right : (now low high : ℕ) {counted agree suspects : ℕ} → low * million ≤ told now → told now ≤ high * million
    → high ≤ last
    → Right now
    (record {
      low = low;
      high = high;
      stopped = eqb high last;
      counted = counted;
      agree = agree;
      suspects = suspects;
    })
right now low high l h fits = record {
  from = omega arith;
  to = λ e. let n : high ≡ last → ⊥ = eqb-false high last e in omega arith;
  stops = λ e. eqb-true high last e;
}

high_fits : (drift x d : ℕ) → high_later drift x d ≤ last
unfolding high_later
high_fits drift x d = omega arith

-- of two tests that do not both hold, the second does not where the first does
other : (a b : Bool) → a ≡ true → (a && b) ≡ false → b ≡ false
other true b e f = f
other false b e f = absurd (true≢false (sym e))

module _ (c : Clock) (t f : ℕ) (T : ℕ → ℕ) (lies : ℕ → Bool) (y : Story c T lies) where
  abbrev rs : ℕ → Span
  rs s = span_in (spans_then c t) s

  -- what can be told of the true time when the servers are counted
  abbrev now : ℕ
  now = told (T (counting_at c t))

  -- a point that lies wherever the true time does lies in the spans of all who do not lie
  deep : (x : ℕ) → ((s : ℕ) → (rs s).counted ≡ true → Between now (rs s) → in_span x (rs s) ≡ true)
      → count_then c t ≤ liars c t lies + depth_of (spans_then c t) x
  unfolding count_of depth_of
  deep x g =
      cover (counted_in (spans_then c t)) lies (λ s. in_span x (rs s)) 8 (λ s b h n. g s h (honest-in y t s b n))

  deep-before : count_then c t ≤ liars c t lies + depth_of (spans_then c t) (before now)
  deep-before = deep (before now) (λ s h b. before-in h b)

  deep-behind : count_then c t ≤ liars c t lies + depth_of (spans_then c t) (behind now)
  deep-behind = deep (behind now) (λ s h b. behind-in h b)

  -- where they do not agree, more than f lie
  pub none-lies : Disagrees (spans_then c t) f → f < liars c t lies
  none-lies g =
      let u : before now ≤ last = omega arith in omega (arith, g.more, g.no-point (before now) u, deep-before)

  module _ (few : liars c t lies ≤ f) where
    -- the true time was between the two ends when the servers were counted
    sound-then : (a : Agreed) → Agrees (spans_then c t) f a → (a.from * million ≤ now) × (now ≤ a.to * million)
    sound-then a g =
        let l : a.from ≤ before now =
        by_contra _ _ (λ m. omega (arith, g.more, g.none_below (before now) m, deep-before, few)) in
        let u : behind now ≤ last = omega arith in
        let h : behind now ≤ a.to =
        by_contra _ _ (λ m. omega (arith, g.more, g.none_above (behind now) m u, deep-behind, few)) in
        (omega arith, omega arith)

    -- and is at the moment t
    pub sound : (a : Time) → IsTime c t f a → Right (T t) a
    sound a g =
        let b = g.agreed in
        let s = sound-then b g.agrees in
        let d = counted-by c t g.in-time in
        let l = low-later y.drift (counting_at c t) t d b.from (omega (arith, s.0)) in
        let h = high-later y.drift (counting_at c t) t d b.to s.1 in
        subst (λ (x : Time). Right (T t) x) (sym g.is)
        (right (T t) (low_later c.drift b.from (t - counting_at c t))
        (high_later c.drift b.to (t - counting_at c t)) l h (high_fits c.drift b.to (t - counting_at c t)))

    -- a suspect lies
    pub suspect-lies : (a : Agreed) → Agrees (spans_then c t) f a → (j : ℕ) → j < 8
        → suspect (spans_then c t) a.from a.to j ≡ true → lies j ≡ true
    suspect-lies a g j h e = by (lies j) refl
      where
        by : (b : Bool) → lies j ≡ b → b ≡ true
        by true q = refl
        by false q =
            let r = rs j in
            let p = both r.counted (ltb (min a.to r.high) (max a.from r.low)) e in
            let m = ltb-true (min a.to r.high) (max a.from r.low) p.1 in
            let b = honest-in y t j h q in
            let n = sound-then a g in
            absurd (omega (arith, m, b.from, b.to, n.0, n.1))

    -- where f is below half of the servers that are counted, a point that lies in the spans of all but f lies in that
    -- of one that does not lie
    module _ (half : f + f < count_then c t) where
      pub backed : (x : ℕ) → count_then c t - f ≤ depth_of (spans_then c t) x → Backed c t T lies x
      unfolding depth_of
      backed x h =
          let d =
          differs (λ s. counted_in (spans_then c t) s && lies s) (λ s. in_span x (rs s)) 8 (omega (arith, half, few, h)) in
          let i = inside x (rs d.place) d.yes in
          let n = other (rs d.place).counted (lies d.place) i.counted d.not in
          let b = honest-in y t d.place d.below n in
          record {
            server = d.place;
            one = d.below;
            honest = n;
            from = i.from;
            to = i.to;
            time =
                record {
                  from = omega (arith, b.from);
                  to = λ l. omega (arith, b.to, l);
                };
          }
