-- Laws about a character that is written as \u00 and two digits.
use Prim.Native.Nat.{ℕ, ◌+◌, ◌*◌}
use mathlib.Core.Path.{◌≡◌, refl, sym, ◌∙◌, ap}
use mathlib.Core.Bool.{Bool, true, false}
use mathlib.Core.List.{List}
use native.Mathlib.Omega.{arith}
use lib.Dec.{eqb}
use lib.ListN.{get_or}
use borrow.Author.Tests.{eqb-true}
use Rattle.laws.specs.Pick.{pick}
use Rattle.json_strings.specs.declared.Unit.TheVariants.{Code}
use Rattle.json_strings.specs.Text.{nibble_of, nibble_at, hex_at, escape_at, unit_at, latin_at}
use Rattle.json_strings.proofs.Units.{code_same}

-- of a number that is not 256, which test it passed
passed : {r x : ℕ} (b : Bool) → r ≡ pick b x 256 → (r ≡ 256 → ⊥) → (b ≡ true) × (r ≡ x)
unfolding pick
passed true e h = (refl, e)
passed false e h = absurd (h e)

failed : {r x : ℕ} (b : Bool) → r ≡ pick b 256 x → (r ≡ 256 → ⊥) → (b ≡ false) × (r ≡ x)
unfolding pick
failed true e h = absurd (h e)
failed false e h = (refl, e)

zero-nibble : (s : List ℕ) (k : ℕ) → eqb (get_or s k 0) 48 ≡ true → nibble_at s k ≡ 0
unfolding nibble_at nibble_of pick
zero-nibble s k e = rw (eqb-true (get_or s k 0) 48 e) refl

hex-latin : (s : List ℕ) (k : ℕ) → nibble_at s k ≡ 0 → nibble_at s (k + 1) ≡ 0 → eqb (nibble_at s (k + 2)) 16 ≡ false
    → eqb (nibble_at s (k + 3)) 16 ≡ false → hex_at s k ≡ Code (16 * nibble_at s (k + 2) + nibble_at s (k + 3)) (k + 4)
unfolding hex_at pick
hex-latin s k a b c d = rw (a, b, c, d) (code_same (omega arith) refl)

escape-latin : (s : List ℕ) (k : ℕ) → eqb (get_or s k 0) 92 ≡ true → eqb (get_or s (k + 1) 0) 117 ≡ true
    → unit_at s k ≡ hex_at s (k + 2)
unfolding unit_at escape_at pick
escape-latin s k e h =
    let p : k + 1 + 1 ≡ k + 2 = omega arith in
    rw (eqb-true (get_or s k 0) 92 e) (rw h (ap (hex_at s) p))

module _ {r : ℕ} (s : List ℕ) (at : ℕ) (e : r ≡ latin_at s at) (n : r ≡ 256 → ⊥) where
  pub latin-unit : unit_at s at ≡ Code r (at + 6)
  unfolding latin_at
  latin-unit =
      let a = passed (eqb (get_or s at 0) 92) e n in
      let b = passed (eqb (get_or s (at + 1) 0) 117) a.1 n in
      let c = passed (eqb (get_or s (at + 2) 0) 48) b.1 n in
      let d = passed (eqb (get_or s (at + 3) 0) 48) c.1 n in
      let h = failed (eqb (nibble_at s (at + 4)) 16) d.1 n in
      let l = failed (eqb (nibble_at s (at + 5)) 16) h.1 n in
      let p1 : at + 3 ≡ at + 2 + 1 = omega arith in
      let p2 : at + 4 ≡ at + 2 + 2 = omega arith in
      let p3 : at + 5 ≡ at + 2 + 3 = omega arith in
      let p4 : at + 6 ≡ at + 2 + 4 = omega arith in
      escape-latin s at a.0 b.0
      ∙ hex-latin s (at + 2) (zero-nibble s (at + 2) c.0) (rw p1 at (zero-nibble s (at + 3) d.0))
      (rw p2 at h.0) (rw p3 at l.0)
      ∙ code_same (sym (rw (p2, p3) at l.1)) (sym p4)
