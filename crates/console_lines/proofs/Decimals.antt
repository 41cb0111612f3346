-- The digits that `io::decimal` writes are the number in decimal.
use mathlib.Core.Path.{◌≡◌, ap, subst}
use mathlib.Core.List.{List, [], ◌∷◌, ◌++◌}
use Prim.Native.Nat.{ℕ, zero, suc, ◌+◌, ◌-◌, ◌/◌, ◌%◌, ◌^◌, ◌≤◌, ◌<◌}
use native.Mathlib.Omega.{arith}
use borrow.Author.Tests.{lt-ltb, le-ltb}
use native.Mathlib.Nat.{one-le-pow, pow-le-pow_right, zero-lt-suc}
use Rattle.io.specs.Digits.{hex_digit_ascii, last_digits, IsDigitCount}
use Rattle.laws.proofs.Split.{split}
use Rattle.console_lines.specs.Line.{decimal_in}

-- a number of 64 bits has 20 digits at most
pub decimal-short : (n r : ℕ) → n < 2 ^ 64 → IsDigitCount 10 1 n r → r ≤ 20
decimal-short n r h f =
    split r 20 (λ g. g)
    (λ g.
    let more = pow-le-pow_right (zero-lt-suc 9) {i = 20} {j = r - 1} (omega (arith, g)) in
    absurd (omega (arith, h, f.2 (omega (arith, g)), more)))

last-digit : (n : ℕ) → hex_digit_ascii (n % 10) ≡ 48 + n % 10
last-digit n = simp (lt-ltb (n % 10) 10 (omega arith))

pub decimal-is : (n r k : ℕ) → IsDigitCount 10 1 n r → r ≤ k → last_digits 10 r n ≡ decimal_in k n
unfolding decimal_in
decimal-is n zero k f h = absurd (omega (arith, f.0))
decimal-is n (suc r) zero f h = absurd (omega (arith, h))
decimal-is n (suc zero) (suc k) f h = simp (lt-ltb n 10 (omega (arith, f.1)), last-digit n)
decimal-is n (suc (suc r)) (suc k) f h =
    let one : suc (suc r) - 1 ≡ suc r = omega arith in
    let more : 10 ^ suc r ≤ n = subst (λ (m : ℕ). 10 ^ m ≤ n) one (f.2 (omega arith)) in
    let two : r ≡ suc r - 1 = omega arith in
    let ten : 10 ≤ n = omega (arith, more, one-le-pow r 10 (zero-lt-suc 9)) in
    let fewer : IsDigitCount 10 1 (n / 10) (suc r) =
    (omega arith, omega (arith, f.1), λ g. subst (λ (m : ℕ). 10 ^ m ≤ n / 10) two (omega (arith, more))) in
    simp (le-ltb n 10 ten, last-digit n)
    (ap (λ (l : List ℕ). l ++ ((48 + n % 10) ∷ [])) (decimal-is (n / 10) (suc r) k fewer (omega (arith, h))))
