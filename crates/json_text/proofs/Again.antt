-- The octets of a character are UTF-8: the reader of strings reads the character again (RFC 3629, section 3).
use Prim.Native.Nat.{ℕ, ◌+◌, ◌/◌, ◌%◌, ◌≤◌, ◌<◌}
use mathlib.Core.Path.{◌≡◌, refl, ◌∙◌, ap}
use mathlib.Core.Bool.{Bool, true, false}
use mathlib.Core.List.{List, [], ◌∷◌}
use native.Mathlib.Omega.{arith, by_contra}
use borrow.Author.Tests.{eqb-true, ltb-true, ltb-false, lt-ltb, le-ltb, le-leb}
use lib.Dec.{eqb, ltb}
use lib.ListN.{length, get_or}
use Rattle.laws.specs.Pick.{pick, both}
use Rattle.json_tokens.proofs.Ahead.{of-pick-if}
use Rattle.json_tokens.proofs.Stands.{Stands, stands_at_lem, stands-next}
use Rattle.json_strings.specs.declared.Unit.TheVariants.{Code}
use Rattle.json_strings.specs.Text.{least_second, most_second, second_at, tail_at, more_bits, two_at, three_at, four_at, long_at}
use Rattle.json_strings.specs.Text.{wide_at, unit_at}
use Rattle.json_strings.proofs.Sizes.{wide-unit}
use Rattle.json_text.specs.Octets.{trailing, utf8}
use Rattle.json_text.proofs.Sizes.{utf8-two, utf8-three, utf8-four}

two : {p q : Bool} → p ≡ true → q ≡ true → both p q ≡ true
unfolding both
two e f = rw (e, f) refl

-- six bits behind the others
six : {m : ℕ} (n : ℕ) → m ≡ n / 64 → more_bits m (trailing n) ≡ n
unfolding more_bits
six n e = omega arith

lead-two : (c : ℕ) → c < 0x800 → (0xC0 + c / 64 % 32) % 32 ≡ c / 64
lead-two c h = omega arith

lead-three : (c : ℕ) → c < 0x10000 → (0xE0 + c / 4096 % 16) % 16 ≡ c / 64 / 64
lead-three c h = omega arith

lead-four : (c : ℕ) → c < 0x110000 → (0xF0 + c / 262144 % 8) % 8 ≡ c / 4096 / 64
lead-four c h = omega arith

twice : (c : ℕ) → c / 4096 ≡ c / 64 / 64
twice c = omega arith

-- ---- The octets behind the first.
tail-good : (s : List ℕ) (k n : ℕ) → get_or s k 0 ≡ trailing n → tail_at s k ≡ true
unfolding tail_at both
tail-good s k n e = rw e (simp (le-leb 0x80 (trailing n) (omega arith), le-leb (trailing n) 0xBF (omega arith)))

second-good : (s : List ℕ) (k : ℕ) {a b : ℕ} → get_or s k 0 ≡ a → get_or s (k + 1) 0 ≡ b → 0x80 ≤ b → b ≤ 0xBF
    → (a ≡ 0xE0 → 0xA0 ≤ b) → (a ≡ 0xF0 → 0x90 ≤ b) → (a ≡ 0xED → b ≤ 0x9F) → (a ≡ 0xF4 → b ≤ 0x8F)
    → second_at s k ≡ true
unfolding second_at least_second most_second
second-good s k {a} {b} e f low high x y z w =
    rw (e, f) (two
    (le-leb _ _ (of-pick-if (λ n. n ≤ b) (eqb a 0xE0) (λ t. x (eqb-true _ _ t))
    (of-pick-if (λ n. n ≤ b) (eqb a 0xF0) (λ t. y (eqb-true _ _ t)) low)))
    (le-leb _ _ (of-pick-if (λ n. b ≤ n) (eqb a 0xED) (λ t. z (eqb-true _ _ t))
    (of-pick-if (λ n. b ≤ n) (eqb a 0xF4) (λ t. w (eqb-true _ _ t)) high))))

-- ---- Characters of two octets, of three and of four.
module _ {s : List ℕ} {k : ℕ} (c : ℕ) where
  two-again : 0x80 ≤ c → c < 0x800 → Stands s k ((0xC0 + c / 64 % 32) ∷ trailing c ∷ []) → unit_at s k ≡ Code c (k + 2)
  unfolding wide_at pick two_at
  two-again h g t =
      let e = stands_at_lem t in
      let f = stands_at_lem (stands-next t) in
      let m =
      second-good s k e f (omega arith) (omega arith) (λ x. omega arith) (λ x. omega arith) (λ x. omega arith)
      (λ x. omega arith) in
      wide-unit s k (omega arith)
      ∙ rw (e, f) (simp (
        le-ltb (0xC0 + c / 64 % 32) 0xC2 (omega arith),
        m,
        lt-ltb (0xC0 + c / 64 % 32) 0xE0 (omega arith),
        six c (lead-two c g),
      ))

  three-again : 0x800 ≤ c → c < 0x10000 → (0xD800 ≤ c → 0xE000 ≤ c)
      → Stands s k ((0xE0 + c / 4096 % 16) ∷ trailing (c / 64) ∷ trailing c ∷ []) → unit_at s k ≡ Code c (k + 3)
  unfolding wide_at long_at pick three_at
  three-again h g n t =
      let e = stands_at_lem t in
      let f = stands_at_lem (stands-next t) in
      let l : get_or s (k + 2) 0 ≡ trailing c =
      ap (λ i. get_or s i 0) (omega arith) ∙ stands_at_lem (stands-next (stands-next t)) in
      let m =
      second-good s k e f (omega arith) (omega arith) (λ x. omega arith) (λ x. omega arith)
      (λ x. by-surrogate x) (λ x. omega arith) in
      wide-unit s k (omega arith)
      ∙ rw (e, f, l) (simp (
        le-ltb (0xE0 + c / 4096 % 16) 0xC2 (omega arith),
        m,
        le-ltb (0xE0 + c / 4096 % 16) 0xE0 (omega arith),
        tail-good s (k + 2) c l,
        lt-ltb (0xE0 + c / 4096 % 16) 0xF0 (omega arith),
        six (c / 64) (lead-three c g),
        six c refl,
      ))
    where
      by-surrogate : 0xE0 + c / 4096 % 16 ≡ 0xED → trailing (c / 64) ≤ 0x9F
      by-surrogate x = by_contra (trailing (c / 64)) 0x9F (λ o. omega (arith, n (omega arith)))

  four-again : 0x10000 ≤ c → c < 0x110000
      → Stands s k ((0xF0 + c / 262144 % 8) ∷ trailing (c / 4096) ∷ trailing (c / 64) ∷ trailing c ∷ [])
      → unit_at s k ≡ Code c (k + 4)
  unfolding wide_at long_at pick four_at
  four-again h g t =
      let e = stands_at_lem t in
      let f = stands_at_lem (stands-next t) in
      let l : get_or s (k + 2) 0 ≡ trailing (c / 64) =
      ap (λ i. get_or s i 0) (omega arith) ∙ stands_at_lem (stands-next (stands-next t)) in
      let o : get_or s (k + 3) 0 ≡ trailing c =
      ap (λ i. get_or s i 0) (omega arith) ∙ stands_at_lem (stands-next (stands-next (stands-next t))) in
      let m =
      second-good s k e f (omega arith) (omega arith) (λ x. omega arith) (λ x. omega arith) (λ x. omega arith)
      (λ x. omega arith) in
      wide-unit s k (omega arith)
      ∙ rw (e, f, l, o) (simp (
        le-ltb (0xF0 + c / 262144 % 8) 0xC2 (omega arith),
        m,
        le-ltb (0xF0 + c / 262144 % 8) 0xE0 (omega arith),
        tail-good s (k + 2) (c / 64) l,
        le-ltb (0xF0 + c / 262144 % 8) 0xF0 (omega arith),
        tail-good s (k + 3) c o,
        lt-ltb (0xF0 + c / 262144 % 8) 0xF5 (omega arith),
        six (c / 4096) (lead-four c g),
        six (c / 64) (twice c),
        six c refl,
      ))

-- any character but a surrogate that is more than a byte
pub utf8-again : {s : List ℕ} {k : ℕ} (c : ℕ) → 0x80 ≤ c → c < 0x110000 → (0xD800 ≤ c → 0xE000 ≤ c)
    → Stands s k (utf8 c) → unit_at s k ≡ Code c (k + length (utf8 c))
utf8-again {s} {k} c h g n t = by (ltb c 0x800) (ltb c 0x10000) refl refl
  where
    by : (p q : Bool) → ltb c 0x800 ≡ p → ltb c 0x10000 ≡ q → unit_at s k ≡ Code c (k + length (utf8 c))
    by true q e f = let u = utf8-two c h (ltb-true _ _ e) in rw u (two-again c h (ltb-true _ _ e) (rw u at t))
    by false true e f =
        let u = utf8-three c (ltb-false _ _ e) (ltb-true _ _ f) in
        rw u (three-again c (ltb-false _ _ e) (ltb-true _ _ f) n (rw u at t))
    by false false e f =
        let u = utf8-four c (ltb-false _ _ f) in rw u (four-again c (ltb-false _ _ f) g (rw u at t))
