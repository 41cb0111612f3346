-- Where the windows of a state stand once one more is taken.
use Rattle.std.specs.Prelude.{Err, Ok}
use mathlib.Core.Path.{◌≡◌, refl, ◌∙◌}
use mathlib.Core.Bool.{Bool, true, false, cond}
use mathlib.Core.List.{List}
use Prim.Native.Nat.{ℕ, ◌+◌, ◌*◌, ◌<◌}
use native.Mathlib.Omega.{arith}
use lib.Dec.{eqb}
use lib.ListN.{length, length-set, get_or, set, get_or-replicate}
use lib.Seq.{get_or-set_same, get_or-set_other}
use borrow.Author.Tests.{eqb-true, eqb-false}
use Rattle.clock_spans.specs.declared.Kept.{Kept}
use Rattle.clock.specs.State.{no_window, kept_in, newest, older, start_of, pushed, keeping, take_code, taken_of, next_of}
use Rattle.clock.specs.declared.Clock.{Clock}

-- ---- the windows

module _ (a : List Kept) (size : length a ≡ 16) (s : ℕ) (w : Kept) (one : s < 8) where
  push-newest : get_or (pushed a s w) (2 * s) no_window ≡ w
  unfolding pushed
  push-newest =
      get_or-set_same (set a (2 * s + 1) (get_or a (2 * s) no_window)) (2 * s) w no_window
      (rw length-set (omega arith))

  push-older : get_or (pushed a s w) (2 * s + 1) no_window ≡ get_or a (2 * s) no_window
  unfolding pushed
  push-older =
      get_or-set_other (set a (2 * s + 1) (get_or a (2 * s) no_window)) (2 * s) (2 * s + 1) w no_window
      (λ e. omega (arith, e))
      ∙ get_or-set_same a (2 * s + 1) (get_or a (2 * s) no_window) no_window (omega arith)

-- ---- the state

-- a state has room for two windows of each server
abbrev pub Shaped : Clock → Type 0
Shaped c = length c.kept ≡ 16

module _ (c : Clock) (s : ℕ) (w : Kept) where
  kept-shaped : Shaped c → Shaped (keeping c s w)
  unfolding keeping pushed
  kept-shaped h = simp length-set h

  -- any other place stays
  pub kept-other : (i : ℕ) → (i ≡ 2 * s → ⊥) → (i ≡ 2 * s + 1 → ⊥) → kept_in (keeping c s w) i ≡ kept_in c i
  unfolding keeping pushed
  kept-other i p q =
      get_or-set_other (set c.kept (2 * s + 1) (get_or c.kept (2 * s) no_window)) (2 * s) i w no_window p
      ∙ get_or-set_other c.kept (2 * s + 1) i (get_or c.kept (2 * s) no_window) no_window q

  module _ (h : Shaped c) (one : s < 8) where
    -- the window that is taken is the newest, and the newest is the older
    pub kept-newest : newest (keeping c s w) s ≡ w
    unfolding keeping
    kept-newest = push-newest c.kept h s w one

    pub kept-older : older (keeping c s w) s ≡ newest c s
    unfolding keeping
    kept-older = push-older c.kept h s w one

-- those of another server stay
module _ (c : Clock) (s : ℕ) (w : Kept) (j : ℕ) (n : s ≡ j → ⊥) where
  pub newest-stays : newest (keeping c s w) j ≡ newest c j
  newest-stays = kept-other c s w (2 * j) (λ p. n (omega (arith, p))) (λ p. omega (arith, p))

  pub older-stays : older (keeping c s w) j ≡ older c j
  older-stays = kept-other c s w (2 * j + 1) (λ p. omega (arith, p)) (λ p. n (omega (arith, p)))

-- ---- at the start

pub start-shaped : (drift : ℕ) → Shaped (start_of drift)
start-shaped drift = refl

pub start-blank : (drift i : ℕ) → i < 16 → kept_in (start_of drift) i ≡ no_window
start-blank drift i h = get_or-replicate {A = Kept} 16 i no_window no_window h

-- ---- taken or refused

-- what holds of the state with the window, where it is taken, and of the state without it, holds of what is left
pub taken-or-left : (P : Clock → Type 0) (c : Clock) (s : ℕ) (w : Kept) → ((take_code c s w).code ≡ 0 → P (keeping c s w))
    → (((take_code c s w).code ≡ 0 → ⊥) → P c) → P (next_of c (taken_of c s w))
unfolding taken_of
taken-or-left P c s w f g = by (eqb (take_code c s w).code 0) refl
  where
    by : (b : Bool) → eqb (take_code c s w).code 0 ≡ b → P (next_of c (cond b (Ok (keeping c s w)) (Err (take_code c s w))))
    by true e = f (eqb-true (take_code c s w).code 0 e)
    by false e = g (eqb-false (take_code c s w).code 0 e)

pub taken-shaped : (c : Clock) (s : ℕ) (w : Kept) → Shaped c → Shaped (next_of c (taken_of c s w))
taken-shaped c s w h = taken-or-left Shaped c s w (λ z. kept-shaped c s w h) (λ n. h)
