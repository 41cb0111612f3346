-- Laws of two tests as one, where code has the first test's answer in a variable: `search (tests, needs)` proves a
-- return.
use Prim.Native.Nat.{ℕ}
use mathlib.Core.Path.{◌≡◌, refl, sym, ◌∙◌, ap}
use mathlib.Core.Bool.{Bool, true, false, not}
use lib.Dec.{eqb, leb}
use borrow.Author.Tests.{eq-eqb, ne_eqb, not-true, not-false}
use Rattle.laws.specs.Pick.{either, both}
use Rattle.laws.proofs.Picks.{choices}

pub either-here : {t p : Bool} (q : Bool) → t ≡ p → t ≡ true → true ≡ either p q
unfolding either
either-here q e h = rw (sym e ∙ h) refl

pub either-on : {t p r q : Bool} → t ≡ p → t ≡ false → r ≡ q → r ≡ either p q
unfolding either
either-on e h g = rw (sym e ∙ h) g

pub both-stop : {t p : Bool} (q : Bool) → t ≡ p → not t ≡ true → false ≡ both p q
unfolding both
both-stop {t} q e h = rw (sym e ∙ not-true t h) refl

pub both-on : {t p r q : Bool} → t ≡ p → not t ≡ false → r ≡ q → r ≡ both p q
unfolding both
both-on {t} e h g = rw (sym e ∙ not-false t h) g

-- the number m, which code has as k
pub both-differs : {k m n : ℕ} (q : Bool) → k ≡ m → (k ≡ n → ⊥) → false ≡ both (eqb m n) q
unfolding both
both-differs {k} {m} {n} q e h = rw (ne_eqb m n (λ z. h (e ∙ z))) refl

pub both_equal : {k m n : ℕ} {r q : Bool} → k ≡ m → k ≡ n → r ≡ q → r ≡ both (eqb m n) q
unfolding both
both_equal {k} {m} {n} e h g = rw (eq-eqb m n (sym e ∙ h)) g

pub but-equal : {k m n : ℕ} (q : Bool) → k ≡ m → k ≡ n → false ≡ both (not (eqb m n)) q
unfolding both
but-equal {k} {m} {n} q e h = rw (eq-eqb m n (sym e ∙ h)) refl

pub but-differs : {k m n : ℕ} {r q : Bool} → k ≡ m → (k ≡ n → ⊥) → r ≡ q → r ≡ both (not (eqb m n)) q
unfolding both
but-differs {k} {m} {n} e h g = rw (ne_eqb m n (λ z. h (e ∙ z))) g

pub flipped : {t p : Bool} → t ≡ p → not t ≡ not p
flipped e = ap not e

-- an answer about a number that code has in a variable
pub eqb_of : {k m : ℕ} (n : ℕ) → k ≡ m → eqb k n ≡ eqb m n
eqb_of n e = ap (λ j. eqb j n) e

pub leb-of : {k m : ℕ} (n : ℕ) → k ≡ m → leb k n ≡ leb m n
leb-of n e = ap (λ j. leb j n) e

pub differs-of : {k m : ℕ} (n : ℕ) → k ≡ m → not (eqb k n) ≡ not (eqb m n)
differs-of n e = ap (λ j. not (eqb j n)) e

pub ruleset tests = (
  choices,
  either-here,
  either-on,
  both-stop,
  both-on,
  both-differs,
  both_equal,
  but-equal,
  but-differs,
  flipped,
  eqb_of,
  leb-of,
  differs-of,
)
