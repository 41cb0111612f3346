-- Of eight candidates the least one at which a test holds, kept one after the other: where the first point at which it
-- holds is a candidate, that is what is kept in the end.
use mathlib.Core.Path.{◌≡◌, refl, sym, ap, ◌∙◌, subst}
use mathlib.Core.Bool.{Bool, true, false, true≢false}
use mathlib.Core.Logic.{◌⊎◌, inl, inr, ⊎_elim}
use Prim.Native.Nat.{ℕ, ◌+◌, ◌≤◌, ◌<◌, min}
use native.Mathlib.Omega.{arith, by_contra}
use lib.Dec.{ltb, leb}
use borrow.Author.Count.{below_none, below_more}
use borrow.Author.Tests.{leb-true, leb-false, ltb-true, ltb-false}
use Rattle.laws.specs.Least.{least, IsFirst}
use Rattle.laws.proofs.Holds.{holds-exactly}
use Rattle.laws.proofs.Least.{least_first, least-never}
use Rattle.clock_spans.specs.Drift.{last}
use Rattle.clock_agreement.specs.Count.{points}

-- k is one of the candidates v
pub record Candidate (v : ℕ → ℕ) (k : ℕ) : Type 0 where
  pub place : ℕ
  pub below : place < 8
  pub is : v place ≡ k

pub record Best (p : ℕ → Bool) (v : ℕ → ℕ) (j best : ℕ) : Type 0 where
  pub fits : best ≤ last
  pub here : (p best ≡ true) ⊎ (best ≡ last)
  pub before : (i : ℕ) → i < j → p (v i) ≡ true → best ≤ v i

module _ (p : ℕ → Bool) (v : ℕ → ℕ) where
  pub best_none : Best p v 0 last
  best_none = record {
    fits = omega arith;
    here = inr refl;
    before = below_none (λ (i : ℕ). p (v i) ≡ true → last ≤ v i);
  }

  pub best-miss : {j best : ℕ} → Best p v j best → p (v j) ≡ false → Best p v (j + 1) best
  best-miss {j} {best} b n = record {
    fits = b.fits;
    here = b.here;
    before =
        below_more (λ (i : ℕ). p (v i) ≡ true → best ≤ v i) j b.before (λ e. absurd (true≢false (sym e ∙ n)));
  }

  pub best-hit : {j best : ℕ} → Best p v j best → p (v j) ≡ true → Best p v (j + 1) (min best (v j))
  best-hit {j} {best} b y = record {
    fits = omega (arith, b.fits);
    here = by (leb best (v j)) refl;
    before =
        below_more (λ (i : ℕ). p (v i) ≡ true → min best (v j) ≤ v i) j
        (λ i l e. omega (arith, b.before i l e)) (λ e. omega arith);
  }
    where
      by : (t : Bool) → leb best (v j) ≡ t → (p (min best (v j)) ≡ true) ⊎ (min best (v j) ≡ last)
      by true e =
          let m : min best (v j) ≡ best = omega (arith, leb-true best (v j) e) in
          subst (λ (x : ℕ). (p x ≡ true) ⊎ (x ≡ last)) (sym m) b.here
      by false e =
          let m : min best (v j) ≡ v j = omega (arith, leb-false best (v j) e) in
          inl (ap p m ∙ y)

  module _ (edge : (k : ℕ) → IsFirst p points k → Candidate v k) where
    pub best-end : {best : ℕ} → Best p v 8 best → best ≡ min last (least p points)
    best-end {best} b = by (ltb (least p points) points) refl
      where
        some : (k : ℕ) → IsFirst p points k → best ≡ k
        some k f =
            let c = edge k f in
            let y : p (v c.place) ≡ true = ap p c.is ∙ (holds-exactly _).1 f.holds in
            let u : best ≤ k = omega (arith, b.before c.place c.below y, c.is) in
            let w : k ≤ best =
            ⊎_elim (λ e. by_contra k best (λ l. f.earlier best l ((holds-exactly _).0 e)))
            (λ e. omega (arith, f.inside)) b.here in
            omega arith

        by : (t : Bool) → ltb (least p points) points ≡ t → best ≡ min last (least p points)
        by true e =
            let l = ltb-true _ _ e in
            let k = some (least p points) (least_first p points refl l) in
            omega (arith, k, b.fits)
        by false e =
            let l : points ≤ least p points = ltb-false _ _ e in
            let n = least-never p points refl l in
            let k : best ≡ last =
            ⊎_elim (λ y. absurd (n best (omega (arith, b.fits)) ((holds-exactly _).0 y))) (λ q. q) b.here in
            omega (arith, k, l)
