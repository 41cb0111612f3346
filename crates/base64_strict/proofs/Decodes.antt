-- Laws about `decode64` at a group.
use Rattle.std.specs.Prelude.{None, Option, Some}
use Prim.Native.Nat.{ℕ}
use mathlib.Core.Path.{◌≡◌, refl, sym}
use mathlib.Core.Bool.{Bool, true, false, true≢false}
use mathlib.Core.List.{List, ◌∷◌}
use lib.Dec.{eqb}
use native.Mathlib.Omega.{arith}
use borrow.Author.Tests.{eq-eqb, ne_eqb}
use Rattle.laws.specs.Pick.{pick}
use Rattle.base64_strict.specs.Alphabet.{sextet_of, is_letter, number_of, pad}
use Rattle.base64_strict.proofs.Tables.{letter-number, number-known, number-none}
use Rattle.base64_strict.specs.Decode.{high, middle, low}
use Rattle.base64_strict.specs.declared.Group.{Group}
use Rattle.base64_strict.specs.declared.Group.TheVariants.{Three}
use Rattle.base64_strict.specs.Decode.{with_group, one_of, two_of, three_of, group_of, decode64}

no-pad : (d : ℕ) → is_letter d ≡ true → eqb d pad ≡ false
unfolding is_letter sextet_of pick
no-pad d h = ne_eqb d pad (λ e. clash (rw e at h))
  where
    clash : is_letter pad ≡ true → ⊥
    clash z = let y : ◌≡◌ {A = Bool} false true = z in true≢false (sym y)

-- four letters' numbers are three bytes
pub group-numbers : {p q r t : ℕ} (a b c d : ℕ) → is_letter a ≡ true → is_letter b ≡ true → is_letter c ≡ true
    → is_letter d ≡ true → p ≡ sextet_of a → q ≡ sextet_of b → r ≡ sextet_of c → t ≡ sextet_of d
    → three_of p q r t ≡ group_of a b c d
unfolding group_of pick
group-numbers a b c d ha hb hc hd e f g h =
    rw (e, f, g, h) (simp (letter-number a ha, letter-number b hb, no-pad d hd))

-- and so are four letters
pub group-letters : (a b c d : ℕ) → is_letter a ≡ true → is_letter b ≡ true → is_letter c ≡ true → is_letter d ≡ true
    → Some (Three (high (sextet_of a) (sextet_of b)) (middle (sextet_of b) (sextet_of c)) (low (sextet_of c) (sextet_of d)))
    ≡ group_of a b c d
unfolding group_of three_of pick
group-letters a b c d ha hb hc hd =
    simp (letter-number a ha, letter-number b hb, letter-number c hc, letter-number d hd, no-pad d hd)

module _ {g : Option Group} (a b c d : ℕ) (l : List ℕ) (e : g ≡ group_of a b c d) where
  pub decode-group : decode64 (a ∷ b ∷ c ∷ d ∷ l) ≡ with_group g l (decode64 l)
  unfolding decode64
  decode-group = rw (sym e) refl

-- ---- groups, by the numbers that code has of their letters
number-short : {p : ℕ} (a : ℕ) → Some p ≡ number_of a → eqb (sextet_of a) 64 ≡ false
number-short {p} a e = let i = number-known a e in ne_eqb (sextet_of a) 64 (λ z. omega (arith, i.0, i.1))

number-long : (a : ℕ) → None ≡ number_of a → eqb (sextet_of a) 64 ≡ true
number-long a e = eq-eqb (sextet_of a) 64 (number-none a e)

module _ (a b c d : ℕ) where
  pub group-no_first : None ≡ number_of a → None ≡ group_of a b c d
  unfolding group_of pick
  group-no_first e = simp (number-long a e)

  module _ {p : ℕ} (e : Some p ≡ number_of a) where
    pub group-no_second : None ≡ number_of b → None ≡ group_of a b c d
    unfolding group_of pick
    group-no_second f = simp (number-short a e, number-long b f)

    module _ {q : ℕ} (f : Some q ≡ number_of b) where
      pub group-two_pads : d ≡ pad → c ≡ pad → one_of p q ≡ group_of a b c d
      unfolding group_of pick
      group-two_pads g h =
          rw ((number-known a e).0, (number-known b f).0)
          (simp (number-short a e, number-short b f, eq-eqb d pad g, eq-eqb c pad h))

      pub group-no_third : d ≡ pad → (c ≡ pad → ⊥) → None ≡ number_of c → None ≡ group_of a b c d
      unfolding group_of two_of pick
      group-no_third g h i =
          simp (number-short a e, number-short b f, eq-eqb d pad g, ne_eqb c pad h, number-long c i)

      pub group-one_pad : {r : ℕ} → d ≡ pad → (c ≡ pad → ⊥) → Some r ≡ number_of c → two_of p q r ≡ group_of a b c d
      unfolding group_of pick
      group-one_pad g h i =
          rw ((number-known a e).0, (number-known b f).0, (number-known c i).0)
          (simp (number-short a e, number-short b f, eq-eqb d pad g, ne_eqb c pad h))

      module _ (g : d ≡ pad → ⊥) where
        pub group-short_third : None ≡ number_of c → None ≡ group_of a b c d
        unfolding group_of three_of pick
        group-short_third i = simp (number-short a e, number-short b f, ne_eqb d pad g, number-long c i)

        pub group-short_fourth : {r : ℕ} → Some r ≡ number_of c → None ≡ number_of d → None ≡ group_of a b c d
        unfolding group_of three_of pick
        group-short_fourth i j =
            simp (number-short a e, number-short b f, ne_eqb d pad g, number-short c i, number-long d j)

        pub group-no_pad : {r t : ℕ} → Some r ≡ number_of c → Some t ≡ number_of d → three_of p q r t ≡ group_of a b c d
        unfolding group_of pick
        group-no_pad i j =
            rw ((number-known a e).0, (number-known b f).0, (number-known c i).0, (number-known d j).0)
            (simp (number-short a e, number-short b f, ne_eqb d pad g))
