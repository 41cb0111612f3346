-- Ch and Maj of FIPS 180-4, (4.8) and (4.9), in the form that the code has. Both forms say the same of each bit, and
-- that is proved from the lowest bit on.
use Rattle.std.proofs.Common.{◌≡◌, ℕ, zero, suc, ◌+◌, ◌-◌, ◌*◌, ◌/◌, ◌%◌, ◌^◌, ◌<◌, sym, refl, ap, ◌∙◌, subst, ap₂, div-add-mod', arith}
use lib.Bits.{bit_and, bit_xor, and_shr, xor_shr, and_mod, xor_mod}
use Rattle.sha512_block.specs.Words.{ch, maj}

-- a bit is 0 or 1
bit : (P : ℕ → Type 0) → P 0 → P 1 → (x : ℕ) → x < 2 → P x
bit P p q zero h = p
bit P p q (suc zero) h = q
bit P p q (suc (suc x)) h = absurd (omega arith)

-- ---- Two functions of three numbers of k bits that agree on bits, and work on each bit apart

-- without the lowest bit f is f of the halves, and its lowest bit is f of the lowest bits
record Apart (f : ℕ → ℕ → ℕ → ℕ → ℕ) : Type 0 where
  half : (k x y z : ℕ) → x < 2 ^ suc k → f (suc k) x y z / 2 ≡ f k (x / 2) (y / 2) (z / 2)
  lowest : (k x y z : ℕ) → x < 2 ^ suc k → f (suc k) x y z % 2 ≡ f 1 (x % 2) (y % 2) (z % 2)

module _ (f g : ℕ → ℕ → ℕ → ℕ → ℕ) (f-apart : Apart f) (g-apart : Apart g) where
  abbrev Same : ℕ → ℕ → ℕ → ℕ → Type 0
  Same k x y z = f k x y z ≡ g k x y z

  -- the cases of three bits, of which the first is x
  cases : (x : ℕ) → Same 1 x 0 0 → Same 1 x 0 1 → Same 1 x 1 0 → Same 1 x 1 1
      → (y z : ℕ) → y < 2 → z < 2 → Same 1 x y z
  cases x a b c d y z p q =
      bit (λ (j : ℕ). Same 1 x j z)
      (bit (λ (i : ℕ). Same 1 x 0 i) a b z q) (bit (λ (i : ℕ). Same 1 x 1 i) c d z q) y p

  -- no bit, and the cases of 0 and of 1
  module _ (none : Same 0 0 0 0)
      (of-0 : (y z : ℕ) → y < 2 → z < 2 → Same 1 0 y z) (of-1 : (y z : ℕ) → y < 2 → z < 2 → Same 1 1 y z) where
    agree : (k x y z : ℕ) → x < 2 ^ k → y < 2 ^ k → z < 2 ^ k → Same k x y z
    agree zero x y z a b c =
        let x-is : 0 ≡ x = omega arith in
        let y-is : 0 ≡ y = omega arith in
        let z-is : 0 ≡ z = omega arith in
        subst (λ (i : ℕ). Same 0 i y z) x-is
        (subst (λ (i : ℕ). Same 0 0 i z) y-is (subst (λ (i : ℕ). Same 0 0 0 i) z-is none))
    agree (suc k) x y z a b c =
        sym (div-add-mod' (f (suc k) x y z) 2)
        ∙ ap₂ (λ (h l : ℕ). h * 2 + l)
        (f-apart.half k x y z a
        ∙ agree k (x / 2) (y / 2) (z / 2) (omega arith) (omega arith) (omega arith)
        ∙ sym (g-apart.half k x y z a))
        (f-apart.lowest k x y z a
        ∙ bit (λ (i : ℕ). Same 1 i (y % 2) (z % 2))
        (of-0 (y % 2) (z % 2) (omega arith) (omega arith)) (of-1 (y % 2) (z % 2) (omega arith) (omega arith))
        (x % 2) (omega arith)
        ∙ sym (g-apart.lowest k x y z a))
        ∙ div-add-mod' (g (suc k) x y z) 2

-- ---- Maj

abbrev pub majority : ℕ → ℕ → ℕ → ℕ
majority x y z = bit_xor (bit_and (bit_xor x y) (bit_xor y z)) y

-- whatever the number of bits
abbrev majority_on : ℕ → ℕ → ℕ → ℕ → ℕ
majority_on k x y z = majority x y z

abbrev maj_on : ℕ → ℕ → ℕ → ℕ → ℕ
maj_on k x y z = maj x y z

majority-apart : Apart majority_on
majority-apart = record {
  half = λ k x y z h.
      xor_shr (bit_and (bit_xor x y) (bit_xor y z)) y 1
      ∙ ap (λ (a : ℕ). bit_xor a (y / 2))
      (and_shr (bit_xor x y) (bit_xor y z) 1 ∙ ap₂ bit_and (xor_shr x y 1) (xor_shr y z 1));
  lowest = λ k x y z h.
      xor_mod (bit_and (bit_xor x y) (bit_xor y z)) y 1
      ∙ ap (λ (a : ℕ). bit_xor a (y % 2))
      (and_mod (bit_xor x y) (bit_xor y z) 1 ∙ ap₂ bit_and (xor_mod x y 1) (xor_mod y z 1));
}

maj-apart : Apart maj_on
maj-apart = record {
  half = λ k x y z h.
      xor_shr (bit_xor (bit_and x y) (bit_and x z)) (bit_and y z) 1
      ∙ ap₂ bit_xor
      (xor_shr (bit_and x y) (bit_and x z) 1 ∙ ap₂ bit_xor (and_shr x y 1) (and_shr x z 1))
      (and_shr y z 1);
  lowest = λ k x y z h.
      xor_mod (bit_xor (bit_and x y) (bit_and x z)) (bit_and y z) 1
      ∙ ap₂ bit_xor
      (xor_mod (bit_and x y) (bit_and x z) 1 ∙ ap₂ bit_xor (and_mod x y 1) (and_mod x z 1))
      (and_mod y z 1);
}

pub majority-is : (k x y z : ℕ) → x < 2 ^ k → y < 2 ^ k → z < 2 ^ k → majority x y z ≡ maj x y z
majority-is =
    agree majority_on maj_on majority-apart maj-apart refl
    (cases majority_on maj_on majority-apart maj-apart 0 refl refl refl refl)
    (cases majority_on maj_on majority-apart maj-apart 1 refl refl refl refl)

-- ---- Ch

abbrev pub choice : ℕ → ℕ → ℕ → ℕ
choice x y z = bit_xor z (bit_and x (bit_xor y z))

-- the same on k bits, where the complement in Ch is 2^k - 1 - x
abbrev choice_on : ℕ → ℕ → ℕ → ℕ → ℕ
choice_on k x y z = choice x y z

abbrev ch_on : ℕ → ℕ → ℕ → ℕ → ℕ
ch_on k x y z = bit_xor (bit_and x y) (bit_and (2 ^ k - 1 - x) z)

choice-apart : Apart choice_on
choice-apart = record {
  half = λ k x y z h.
      xor_shr z (bit_and x (bit_xor y z)) 1
      ∙ ap (bit_xor (z / 2)) (and_shr x (bit_xor y z) 1 ∙ ap (bit_and (x / 2)) (xor_shr y z 1));
  lowest = λ k x y z h.
      xor_mod z (bit_and x (bit_xor y z)) 1
      ∙ ap (bit_xor (z % 2)) (and_mod x (bit_xor y z) 1 ∙ ap (bit_and (x % 2)) (xor_mod y z 1));
}

ch-apart : Apart ch_on
ch-apart = record {
  half = λ k x y z h.
      let others : (2 ^ suc k - 1 - x) / 2 ≡ 2 ^ k - 1 - x / 2 = omega arith in
      xor_shr (bit_and x y) (bit_and (2 ^ suc k - 1 - x) z) 1
      ∙ ap₂ bit_xor (and_shr x y 1)
      (and_shr (2 ^ suc k - 1 - x) z 1 ∙ ap (λ (a : ℕ). bit_and a (z / 2)) others);
  lowest = λ k x y z h.
      let other : (2 ^ suc k - 1 - x) % 2 ≡ 2 ^ 1 - 1 - x % 2 = omega arith in
      xor_mod (bit_and x y) (bit_and (2 ^ suc k - 1 - x) z) 1
      ∙ ap₂ bit_xor (and_mod x y 1)
      (and_mod (2 ^ suc k - 1 - x) z 1 ∙ ap (λ (a : ℕ). bit_and a (z % 2)) other);
}

pub choice-is : (x y z : ℕ) → x < 2 ^ 64 → y < 2 ^ 64 → z < 2 ^ 64 → choice x y z ≡ ch x y z
choice-is =
    agree choice_on ch_on choice-apart ch-apart refl
    (cases choice_on ch_on choice-apart ch-apart 0 refl refl refl refl)
    (cases choice_on ch_on choice-apart ch-apart 1 refl refl refl refl) 64
