-- The first point that lies in n spans is the low end of one of them, and, counted from the last point down, a high
-- end.
use mathlib.Core.Path.{◌≡◌, sym, ap, ◌∙◌}
use mathlib.Core.Bool.{Bool, true, false}
use mathlib.Core.List.{List}
use Prim.Native.Nat.{ℕ, zero, suc, ◌-◌, ◌<◌}
use native.Mathlib.Omega.{arith}
use borrow.Author.Tests.{leb-true, leb-false}
use Rattle.laws.specs.Least.{IsFirst}
use Rattle.laws.proofs.Holds.{holds-exactly, fails-exactly}
use Rattle.clock_spans.specs.Drift.{last}
use Rattle.clock_agreement.specs.Many.{many}
use Rattle.clock_agreement.specs.Count.{points, in_span, span_in, depth_of, enough, lowest_of, highest_of}
use Rattle.clock_spans.specs.declared.Span.{Span}
use Rattle.clock_agreement.proofs.Best.{Candidate, Best, best-end}
use Rattle.clock_agreement.proofs.Inside.{inside, starts, ends}
use Rattle.clock_agreement.proofs.Many.{differs, many-never}

-- counted from the last point down
abbrev pub down : (ℕ → Bool) → ℕ → Bool
down p d = p (last - d)

module _ (rs : List Span) where
  abbrev pub lows : ℕ → ℕ
  lows s = (span_in rs s).low

  abbrev pub highs : ℕ → ℕ
  highs s = last - (span_in rs s).high

  module _ (n : ℕ) (some : 0 < n) where
    -- one span holds a point that n do
    one : (x : ℕ) → enough rs n x ≡ true → many (λ s. false) 8 < many (λ s. in_span x (span_in rs s)) 8
    unfolding depth_of
    one x e = omega (arith, leb-true n _ e, many-never 8)

    -- and one does that does not hold the point y, which fewer do
    change : (x y : ℕ) → enough rs n x ≡ true → enough rs n y ≡ false
        → many (λ s. in_span y (span_in rs s)) 8 < many (λ s. in_span x (span_in rs s)) 8
    unfolding depth_of
    change x y e f = omega (arith, leb-true n _ e, leb-false n _ f)

    low-edge : (k : ℕ) → IsFirst (enough rs n) points k → Candidate lows k
    low-edge zero f =
        let d = differs (λ s. false) (λ s. in_span 0 (span_in rs s)) 8 (one 0 ((holds-exactly _).1 f.holds)) in
        let i = inside 0 (span_in rs d.place) d.yes in
        record { place = d.place; below = d.below; is = omega (arith, i.from) }
    low-edge (suc j) f =
        let d =
        differs (λ s. in_span j (span_in rs s)) (λ s. in_span (suc j) (span_in rs s)) 8
        (change (suc j) j ((holds-exactly _).1 f.holds)
        ((fails-exactly _).1 (f.earlier j (omega arith)))) in
        record { place = d.place; below = d.below; is = starts j (span_in rs d.place) d.yes d.not }

    high-edge : (k : ℕ) → IsFirst (down (enough rs n)) points k → Candidate highs k
    high-edge zero f =
        let d = differs (λ s. false) (λ s. in_span last (span_in rs s)) 8 (one last ((holds-exactly _).1 f.holds)) in
        let i = inside last (span_in rs d.place) d.yes in
        record { place = d.place; below = d.below; is = omega (arith, i.to) }
    high-edge (suc j) f =
        let x : ℕ = last - suc j in
        let y : last - j ≡ suc x = omega (arith, f.inside) in
        let n : enough rs n (suc x) ≡ false =
        ap (enough rs n) (sym y) ∙ (fails-exactly _).1 (f.earlier j (omega arith)) in
        let d =
        differs (λ s. in_span (suc x) (span_in rs s)) (λ s. in_span x (span_in rs s)) 8
        (change x (suc x) ((holds-exactly _).1 f.holds) n) in
        let h = ends x (span_in rs d.place) d.yes d.not in
        record { place = d.place; below = d.below; is = omega (arith, h, f.inside) }

    -- ---- what is found

    pub lowest-is : {best : ℕ} → Best (enough rs n) lows 8 best → best ≡ lowest_of rs n
    unfolding lowest_of
    lowest-is b = best-end (enough rs n) lows low-edge b

    pub highest-is : {best : ℕ} → Best (down (enough rs n)) highs 8 best → last - best ≡ highest_of rs n
    unfolding highest_of
    highest-is b = let e = best-end (down (enough rs n)) highs high-edge b in omega (arith, e)
