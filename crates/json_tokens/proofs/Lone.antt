-- Laws about a digit that is a whole number.
use Rattle.std.specs.Prelude.{None, Some}
use Prim.Native.Nat.{ℕ, ◌+◌, ◌≤◌, ◌<◌, ◌^◌}
use mathlib.Core.Path.{◌≡◌, refl, sym, ◌∙◌}
use mathlib.Core.Bool.{Bool, true, false, ◌||◌, true≢false}
use mathlib.Core.List.{List}
use native.Mathlib.Omega.{arith}
use lib.Dec.{eqb, leb}
use lib.ListN.{length, get_or}
use borrow.Author.Tests.{eqb-true, ne_eqb, leb-true}
use mir.Syntax.{w64}
use mir.Val.{Fits}
use Rattle.laws.specs.Pick.{pick, either, both}
use Rattle.json_tokens.specs.Scan.{then, digit, past_while}
use Rattle.json_tokens.specs.Number.{some_digits, past_minus, whole_at, fraction_at, exponent_at, integer_at, number_at, lone_digit}
use Rattle.json_tokens.proofs.Picks.{over}
use Rattle.json_tokens.proofs.While.{while-more, while-stop}

record Ranged (b : ℕ) : Type 0 where
  least : 48 ≤ b
  most : b ≤ 57

ranged : (b : ℕ) → digit b ≡ true → Ranged b
unfolding both pick
ranged b e = by (leb 48 b) refl (leb b 57) refl e
  where
    by : (p : Bool) → leb 48 b ≡ p → (q : Bool) → leb b 57 ≡ q → both p q ≡ true → Ranged b
    by true x true y e = record { least = leb-true _ _ x; most = leb-true _ _ y }
    by true x false y e = absurd (true≢false (sym e))
    by false x q y e = absurd (true≢false (sym e))

module _ {b : ℕ} (s : List ℕ) (at : ℕ) (e : b ≡ get_or s at 0) (d : digit b ≡ true) where
  digit-inside : at < length s
  digit-inside = let r = ranged b d in over s e (omega (arith, r.least))

  pub digit-next : length s < 2 ^ 64 → Fits w64 (at + 1)
  digit-next h = let i = digit-inside in record { fits = omega arith }

-- a comma or a closing bracket
record Closes (c : ℕ) : Type 0 where
  point : c ≡ 46 → ⊥
  small : c ≡ 101 → ⊥
  capital : c ≡ 69 → ⊥
  above : c ≡ 0 → ⊥
  other : digit c ≡ false

closes : (c : ℕ) → (eqb c 44 || eqb c 93) || eqb c 125 ≡ true → Closes c
unfolding both pick
closes c e = by (eqb c 44) refl (eqb c 93) refl (eqb c 125) refl e
  where
    of : (n : ℕ) → c ≡ n → Closes n → Closes c
    of n h x = rw h x

    by : (p : Bool) → eqb c 44 ≡ p → (q : Bool) → eqb c 93 ≡ q → (r : Bool) → eqb c 125 ≡ r → (p || q) || r ≡ true → Closes c
    by true x q y r z e = of 44 (eqb-true _ _ x) (record { point = λ h. omega arith; small = λ h. omega arith; capital = λ h. omega arith; above = λ h. omega arith; other = refl })
    by false x true y r z e = of 93 (eqb-true _ _ y) (record { point = λ h. omega arith; small = λ h. omega arith; capital = λ h. omega arith; above = λ h. omega arith; other = refl })
    by false x false y true z e = of 125 (eqb-true _ _ z) (record { point = λ h. omega arith; small = λ h. omega arith; capital = λ h. omega arith; above = λ h. omega arith; other = refl })
    by false x false y false z e = absurd (true≢false (sym e))

module _ (s : List ℕ) (at : ℕ) (d : digit (get_or s at 0) ≡ true) (c : Closes (get_or s (at + 1) 0)) where
  run-one : past_while digit s at ≡ at + 1
  run-one = sym (while-more digit s at (digit-inside s at refl d) d)
      ∙ sym (while-stop digit s (at + 1) (over s refl (omega (arith, c.above))) c.other)

  whole : whole_at s at ≡ Some (at + 1)
  unfolding whole_at some_digits pick
  whole = by (eqb (get_or s at 0) 48)
    where
      by : (z : Bool) → pick z (Some (at + 1)) (pick (eqb (past_while digit s at) at) None (Some (past_while digit s at))) ≡ Some (at + 1)
      by true = refl
      by false = rw (run-one, ne_eqb (at + 1) at (λ h. omega arith)) refl

  alone : number_at s at ≡ Some (at + 1)
  unfolding number_at integer_at past_minus fraction_at exponent_at then pick either
  alone =
      let r = ranged (get_or s at 0) d in
      rw (ne_eqb (get_or s at 0) 45 (λ h. omega (arith, r.least)), whole)
      (simp (ne_eqb _ 46 c.point, ne_eqb _ 101 c.small, ne_eqb _ 69 c.capital))

pub lone-number : {r : Bool} (s : List ℕ) (at : ℕ) → r ≡ lone_digit s at → r ≡ true → number_at s at ≡ Some (at + 1)
unfolding lone_digit pick
lone-number s at e h = by (digit (get_or s at 0)) refl (sym e ∙ h)
  where
    by : (p : Bool) → digit (get_or s at 0) ≡ p
        → pick p ((eqb (get_or s (at + 1) 0) 44 || eqb (get_or s (at + 1) 0) 93) || eqb (get_or s (at + 1) 0) 125) false ≡ true
        → number_at s at ≡ Some (at + 1)
    by true d g = alone s at d (closes _ g)
    by false d g = absurd (true≢false (sym g))
