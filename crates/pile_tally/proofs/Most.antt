-- What is below the largest low end is below one of them: so one comparison stands for one with each earlier record.
use Rattle.check_response.specs.declared.Window.{Window}
use Rattle.refusal.specs.declared.Refusal.{Refusal}
use Rattle.std.specs.Prelude.{Err, Ok, Result}
use mathlib.Core.Path.{◌≡◌, refl, sym, ap, ap₂, ◌∙◌}
use mathlib.Core.Bool.{Bool, true, false, ◌||◌}
use Prim.Native.Nat.{ℕ, zero, suc, ◌+◌, ◌-◌, ◌<◌, max, zero-le}
use native.Mathlib.Omega.{arith}
use lib.Dec.{ltb}
use borrow.Author.Tests.{ltb-true, ltb-false, lt-ltb, le-ltb}
use Rattle.laws.specs.Least.{least, somewhere}
use Rattle.laws.proofs.Least.{somewhere-more}
use Rattle.pile_runs.specs.Clash.{contradicting}
use Rattle.pile_runs.proofs.Told.{ltb-same}
use Rattle.pile_tally.specs.EveryPair.{some_before}
use Rattle.pile_tally.specs.Kept.{low_end, most_of}

-- a record's MIDP + RADI is below m; that of a refused record is not
abbrev pub hit : ℕ → Result Window Refusal → Bool
hit m (Ok w) = ltb (w.midp + w.radi) m
hit m (Err why) = false

-- below the larger of two, or below either
below-max : (x m l : ℕ) → ltb x (max m l) ≡ (ltb x m || ltb x l)
below-max x m l = go (ltb x m) (ltb x l) refl refl
  where
    go : (p q : Bool) → ltb x m ≡ p → ltb x l ≡ q → ltb x (max m l) ≡ (p || q)
    go true q e f = lt-ltb x (max m l) (omega (arith, ltb-true x m e))
    go false true e f = lt-ltb x (max m l) (omega (arith, ltb-true x l f))
    go false false e f = le-ltb x (max m l) (omega (arith, ltb-false x m e, ltb-false x l f))

hit-max : (m l : ℕ) (b : Result Window Refusal) → hit (max m l) b ≡ (hit m b || hit l b)
hit-max m l (Ok w) = below-max (w.midp + w.radi) m l
hit-max m l (Err why) = refl

-- no sum is below 0
hit-zero : (b : Result Window Refusal) → hit 0 b ≡ false
hit-zero (Ok w) = le-ltb (w.midp + w.radi) 0 zero-le
hit-zero (Err why) = refl

-- below the low end of a record, which stops at 0: the two contradict
pub hit-low : (a b : Result Window Refusal) → hit (low_end a) b ≡ contradicting a b
hit-low (Ok a) (Ok b) =
    ltb-same (b.midp + b.radi) (a.midp - a.radi) (b.midp + b.radi + a.radi) a.midp
    (λ l. omega arith) (λ l. omega arith)
hit-low (Ok a) (Err why) = refl
hit-low (Err why) b = hit-zero b

module _ (v : ℕ → Result Window Refusal) where
  -- below the largest low end of the first n: one of them contradicts
  pub hit-most : (n : ℕ) (b : Result Window Refusal) → hit (most_of v n) b ≡ some_before v n b
  unfolding most_of somewhere least
  hit-most zero b = hit-zero b
  hit-most (suc n) b =
      hit-max (most_of v n) (low_end (v n)) b
      ∙ ap₂ ◌||◌ (hit-most n b) (hit-low (v n) b)
      ∙ sym (somewhere-more (λ i. contradicting (v i) b) n)

-- the largest is that of the first n, whatever comes behind them
pub most-same : (v w : ℕ → Result Window Refusal) (n : ℕ) → ((k : ℕ) → k < n → v k ≡ w k) → most_of v n ≡ most_of w n
unfolding most_of
most-same v w zero h = refl
most-same v w (suc n) h =
    ap₂ max (most-same v w n (λ k l. h k (omega arith))) (ap low_end (h n (omega arith)))
