-- What is counted, or found, along the list of spans, is what is counted or found place by place.
use mathlib.Core.Path.{◌≡◌, refl, sym, ap, subst, ◌∙◌}
use mathlib.Core.Bool.{Bool, true, false, cond}
use mathlib.Core.List.{List, [], ◌∷◌}
use Prim.Native.Nat.{ℕ, zero, suc, ◌+◌, ◌≤◌, min}
use native.Mathlib.Omega.{arith}
use Rattle.std.proofs.Common.{length, take, map}
use Rattle.std.proofs.Math.Seq.{take-length}
use Rattle.std.specs.List.{count_by, filter, fold}
use Rattle.std.proofs.lemmas.List.Sums.{count_by_more_yes, count_by_more_no, fold_more}
use Rattle.clock_spans.specs.Drift.{last}
use Rattle.clock_spans.specs.declared.Span.{Span}
use Rattle.clock_agreement.specs.Many.{many}
use Rattle.clock_agreement.specs.Count.{span_in}
use Rattle.clock_agreement.proofs.Best.{Best, best_none, best-hit, best-miss}

abbrev nobody : Span
nobody = record { counted = false; low = 0; high = 0 }

one : (k : ℕ) → k + 1 ≡ suc k
one k = omega arith

-- ---- how many pass a test

module _ (p : Span → Bool) (xs : List Span) where
  front : (k : ℕ) → k ≤ length xs → many (λ s. p (span_in xs s)) k ≡ count_by p (take k xs)
  unfolding many
  front zero h = refl
  front (suc k) h = by (p (span_in xs k)) refl (front k (omega arith))
    where
      by : (b : Bool) → p (span_in xs k) ≡ b → many (λ s. p (span_in xs s)) k ≡ count_by p (take k xs)
          → many (λ s. p (span_in xs s)) k + cond b 1 0 ≡ count_by p (take (suc k) xs)
      by true e before =
          let m = subst (λ (j : ℕ). count_by p (take j xs) ≡ count_by p (take k xs) + 1) (one k)
          (count_by_more_yes p xs k nobody (omega arith) e) in
          omega (arith, m, before)
      by false e before =
          let m = subst (λ (j : ℕ). count_by p (take j xs) ≡ count_by p (take k xs)) (one k)
          (count_by_more_no p xs k nobody (omega arith) e) in
          omega (arith, m, before)

  pub many-along : (n : ℕ) → length xs ≡ n → count_by p xs ≡ many (λ s. p (span_in xs s)) n
  many-along n e =
      ap (count_by p) (sym (take-length xs)) ∙ sym (front (length xs) (omega arith))
      ∙ ap (many (λ s. p (span_in xs s))) e

-- ---- the least of the numbers that they stand for and at which a test holds

module _ (q : ℕ → Bool) (f : Span → ℕ) where
  abbrev turn : ℕ → Span → ℕ
  turn a r = cond (q (f r)) (min a (f r)) a

  abbrev picked : List Span → List ℕ
  picked xs = filter q (map f xs)

  unpicked : (a : ℕ) (xs : List Span) → fold (λ b x. min b x) a (picked xs) ≡ fold turn a xs
  unpicked a [] = refl
  unpicked a (x ∷ xs) = by (q (f x)) (λ b. unpicked b xs)
    where
      by : (t : Bool) → ((b : ℕ) → fold (λ c y. min c y) b (picked xs) ≡ fold turn b xs)
          → fold (λ b y. min b y) a (cond t (f x ∷ picked xs) (picked xs)) ≡ fold turn (cond t (min a (f x)) a) xs
      by true g = g (min a (f x))
      by false g = g a

  module _ (xs : List Span) where
    abbrev at : ℕ → ℕ
    at s = f (span_in xs s)

    kept : (k : ℕ) → k ≤ length xs → Best q at k (fold turn last (take k xs))
    kept zero h = best_none q at
    kept (suc k) h =
        subst (λ (a : ℕ). Best q at (suc k) a)
        (sym (fold_more turn last xs k nobody (omega arith))
        ∙ ap (λ (j : ℕ). fold turn last (take j xs)) (one k))
        (subst (λ (j : ℕ). Best q at j (turn (fold turn last (take k xs)) (span_in xs k))) (one k)
        (by (q (at k)) refl (kept k (omega arith))))
      where
        by : (t : Bool) → q (at k) ≡ t → Best q at k (fold turn last (take k xs))
            → Best q at (k + 1) (cond t (min (fold turn last (take k xs)) (at k)) (fold turn last (take k xs)))
        by true e b = best-hit q at b e
        by false e b = best-miss q at b e

    pub best-along : (n : ℕ) → length xs ≡ n → {best : ℕ} → best ≡ fold (λ a x. min a x) last (picked xs)
        → Best q at n best
    best-along n e {best} h =
        let a : fold turn last (take (length xs) xs) ≡ best =
        ap (fold turn last) (take-length xs) ∙ sym (unpicked last xs) ∙ sym h in
        subst (λ (j : ℕ). Best q at j best) e
        (subst (λ (b : ℕ). Best q at (length xs) b) a (kept (length xs) (omega arith)))
