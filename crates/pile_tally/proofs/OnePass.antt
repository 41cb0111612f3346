-- The pass that keeps only the largest MIDP - RADI, in whole numbers, says what the every-pair check says, for any
-- windows and any number of them. And to start from 0, and to let a difference below 0 stop there, loses nothing.
use Rattle.std.specs.Prelude.{Ok}
use mathlib.Core.Path.{◌≡◌, refl, sym, ap, ap₂, ◌∙◌}
use mathlib.Core.Bool.{Bool, true, false, cond, ◌||◌}
use mathlib.Core.List.{List}
use Prim.Native.Nat.{ℕ, zero, suc, ◌+◌, ◌-◌, max, zero-le}
use native.Mathlib.Omega.{arith}
use lib.Dec.{ltb}
use lib.IntN.{ℤ, pos, negsuc, ◌-ℤ◌}
use lib.ListN.{length, get_or}
use lib.Signed.{lt_z}
use borrow.Author.Tests.{ltb-true, ltb-false, le-ltb}
use Rattle.laws.specs.Least.{least, somewhere}
use Rattle.laws.proofs.Least.{somewhere-more}
use Rattle.check_response.specs.Window.{window_of}
use Rattle.check_response.specs.declared.Window.{Window}
use Rattle.pile_tally.specs.EveryPair.{some_before, every_pair, every_pair_in}
use Rattle.pile_tally.specs.Kept.{most_of}
use Rattle.pile_tally.specs.Whole.{larger, largest, one_pass, one_pass_in}
use Rattle.pile_tally.specs.Whole as whole
use Rattle.pile_tally.proofs.Most.{hit-most}

-- a whole number, but 0 where it is below 0
abbrev pub stopped : ℤ → ℕ
stopped (pos n) = n
stopped (negsuc n) = 0

-- no sum tells the two apart
pub above : (t : ℕ) (z : ℤ) → lt_z (pos t) z ≡ ltb t (stopped z)
above t (pos n) = refl
above t (negsuc n) = sym (le-ltb t 0 zero-le)

pick : (a b : ℕ) → stopped (cond (ltb a b) (pos b) (pos a)) ≡ max a b
pick a b = go (ltb a b) refl
  where
    go : (t : Bool) → ltb a b ≡ t → stopped (cond t (pos b) (pos a)) ≡ max a b
    go true e = omega (arith, ltb-true a b e)
    go false e = omega (arith, ltb-false a b e)

either : (t : Bool) (a b : ℕ) → stopped (cond t (negsuc b) (negsuc a)) ≡ 0
either true a b = refl
either false a b = refl

stopped-larger : (a b : ℤ) → stopped (larger a b) ≡ max (stopped a) (stopped b)
stopped-larger (pos a) (pos b) = pick a b
stopped-larger (pos a) (negsuc b) = omega arith
stopped-larger (negsuc a) (pos b) = omega arith
stopped-larger (negsuc a) (negsuc b) = either (ltb b a) a b ∙ omega arith

stopped-less : (m r : ℕ) → stopped (pos m -ℤ pos r) ≡ m - r
stopped-less m zero = omega arith
stopped-less m (suc r) = go (ltb m (suc r)) refl
  where
    go : (t : Bool) → ltb m (suc r) ≡ t → stopped (cond t (negsuc (suc r - suc m)) (pos (m - suc r))) ≡ m - suc r
    go true e = omega (arith, ltb-true m (suc r) e)
    go false e = refl

module _ (w : ℕ → Window) where
  -- the largest of the windows 0 to k is what is kept after them, but for what is below 0
  stopped-largest : (k : ℕ) → stopped (largest w k) ≡ most_of (λ i. Ok (w i)) (suc k)
  unfolding largest most_of
  stopped-largest zero = stopped-less (w 0).midp (w 0).radi ∙ omega arith
  stopped-largest (suc k) =
      stopped-larger (largest w k) (whole.least (w (suc k)))
      ∙ ap₂ max (stopped-largest k) (stopped-less (w (suc k)).midp (w (suc k)).radi)

  -- starting from 0 is starting from nothing, and stopping at 0 is not stopping: a window is judged the same
  pub from_zero : (k : ℕ) → lt_z (whole.latest (w (suc k))) (largest w k)
      ≡ ltb ((w (suc k)).midp + (w (suc k)).radi) (most_of (λ i. Ok (w i)) (suc k))
  from_zero k = above _ (largest w k) ∙ ap (ltb ((w (suc k)).midp + (w (suc k)).radi)) (stopped-largest k)

  -- the one pass says what the every-pair check says
  pub one-pass : (n : ℕ) → one_pass w n ≡ every_pair (λ i. Ok (w i)) n
  unfolding one_pass somewhere least
  one-pass zero = refl
  one-pass (suc zero) = refl
  one-pass (suc (suc k)) =
      ap₂ ◌||◌ (one-pass (suc k)) (from_zero k ∙ hit-most (λ i. Ok (w i)) (suc k) (Ok (w (suc k))))
      ∙ sym (somewhere-more (λ j. some_before (λ i. Ok (w i)) j (Ok (w j))) (suc k))

-- of any list of windows
pub one-pass-in : (ws : List Window) → one_pass_in ws ≡ every_pair_in ws
one-pass-in ws = one-pass (λ k. get_or ws k (window_of 0 0 0 0)) (length ws)
