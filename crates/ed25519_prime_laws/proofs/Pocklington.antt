-- Pocklington's test: how a large number is shown to be prime from a prime divisor of the number before it.
use Prim.Native.Nat.{ℕ, zero, suc, ◌+◌, ◌-◌, ◌*◌, ◌/◌, ◌%◌, ◌^◌, ◌≤◌, ◌<◌}
use mathlib.Core.Path.{◌≡◌, refl, sym, ap, ap₂, ◌∙◌}
use mathlib.Core.Bool.{Bool, true, ◌&&◌}
use native.Mathlib.Omega.{arith}
use native.Mathlib.Decide.{dec_lt}
use native.Mathlib.Nat.{mod-eq_of_lt, mod-lt, zero-mod, pow-zero, pow-suc, div-add-mod, le_refl, mul-le-mul}
use native.Mathlib.Nat.{mul-le-mul_left, mul-le-mul_right, eq_of_mul-eq-mul_left}
use borrow.Author.Tests.{eq-eqb, eqb-true, ltb-true}
use lib.Dec.{T, eqb, ltb, eqb→eq}
use lib.Pow.{pow-add}
use Rattle.laws.proofs.Holds.{holds-exactly, both}
use Rattle.digits.proofs.Mods.{add_cong, mul-cong, pow-mod, pow-pow, more, cancel}
use Rattle.digits.proofs.Powers.{by_bits, power-is}
use Rattle.ed25519_prime_laws.specs.Prime.{Prime}
use Rattle.ed25519_prime_laws.proofs.Small.{pow-one, zero-times, times_zero, positive}
use Rattle.ed25519_prime_laws.proofs.Euclid.{multiple, factor, factor-of}
use Rattle.ed25519_prime_laws.proofs.Firsts.{First, first_of, divides}
use Rattle.ed25519_prime_laws.proofs.Fermat.{fermat}
use Rattle.ed25519_prime_laws.proofs.Divisors.{prime-divisor}

-- the same modulo n is the same modulo a divisor of n
pub modulo-divisor : (n r : ℕ) → n % r ≡ 0 → (x y : ℕ) → x % n ≡ y % n → x % r ≡ y % r
modulo-divisor n r e x y f = sym (same x) ∙ ap (λ (k : ℕ). k % r) f ∙ same y
  where
    same : (x : ℕ) → (x % n) % r ≡ x % r
    same x =
        let g : r * (n / r) ≡ n = factor n r e in
        let s : x ≡ x % n + r * (n / r * (x / n)) =
        omega (arith, div-add-mod x n, ap (λ (k : ℕ). k * (x / n)) g) in
        sym (more r x (x % n) (n / r * (x / n)) s)

ones_power : (m n : ℕ) → 1 ^ n % m ≡ 1 % m
ones_power m zero = ap (λ (k : ℕ). k % m) (pow-zero 1)
ones_power m (suc n) =
    let s : 1 ^ n * 1 ≡ 1 ^ n = omega arith in
    ap (λ (k : ℕ). k % m) (pow-suc 1 n ∙ s) ∙ ones_power m n

-- ---- a prime divisor r of n, where e^q is 1 and e is not: q divides r - 1

module _ (r e q : ℕ) (prime : Prime r) (qprime : Prime q) (power : (e ^ q) % r ≡ 1 % r) (other : e % r ≡ 1 % r
    → ⊥) where
  P : ℕ → Bool
  P k = eqb ((e ^ k) % r) (1 % r)

  holds : (k : ℕ) → (e ^ k) % r ≡ 1 % r → T (P k)
  unfolding P
  holds k h = (holds-exactly (eqb ((e ^ k) % r) (1 % r))).0 (eq-eqb ((e ^ k) % r) (1 % r) h)

  known : (k : ℕ) → T (P k) → (e ^ k) % r ≡ 1 % r
  unfolding P
  known k t = eqb→eq ((e ^ k) % r) (1 % r) t

  closed : (k : ℕ) → T (P k) → (j s : ℕ) → T (P (k * j + s)) → T (P s)
  closed k t j s u =
      let one : (e ^ (k * j)) % r ≡ 1 % r =
      (ap (λ (n : ℕ). n % r) (sym (pow-pow e k j))
      ∙ pow-mod r (e ^ k) j
      ∙ ap (λ (n : ℕ). (n ^ j) % r) (known k t)
      ∙ sym (pow-mod r 1 j)
      ∙ ones_power r j) in
      let x : 1 * e ^ s ≡ e ^ s = omega arith in
      holds s
      (sym
      (ap (λ (n : ℕ). n % r) (pow-add e (k * j) s)
      ∙ mul-cong r (e ^ (k * j)) (e ^ s) 1 (e ^ s) one refl
      ∙ ap (λ (n : ℕ). n % r) x)
      ∙ known (k * j + s) u)

  small : 1 % r ≡ 1
  small = mod-eq_of_lt prime.above

  -- e is not 0, since its power is 1
  not-zero : e % r ≡ 0 → ⊥
  not-zero z =
      let s : q ≡ suc (q - 1) = omega (arith, qprime.above) in
      let zero-power : (e ^ q) % r ≡ 0 =
      (ap (λ (n : ℕ). (e ^ n) % r) s
      ∙ ap (λ (n : ℕ). n % r) (pow-suc e (q - 1))
      ∙ mul-cong r (e ^ (q - 1)) e (e ^ (q - 1)) 0 refl (z ∙ sym (zero-mod r))
      ∙ ap (λ (n : ℕ). n % r) (times_zero (e ^ (q - 1)))
      ∙ zero-mod r) in
      omega (arith, zero-power, power, small)

  before : (m : ℕ) → r ≡ suc m → (e ^ m) % r ≡ 1 % r
  before m s =
      rw s (fermat m (rw s at prime) e (λ (z : e % suc m ≡ 0). not-zero (rw s z)))

  -- q divides r - 1
  pub order-divides : (m : ℕ) → r ≡ suc m → m % q ≡ 0
  order-divides m s =
      let f = first_of P q (omega (arith, qprime.above)) (holds q power) in
      let k : ℕ = f.0 in
      let first : First P k = f.1 in
      let d = divides P k first (closed k first.holds) in
      let one : k ≡ 1 → ⊥ = λ (z : k ≡ 1). other (ones k z (known k first.holds)) in
      let same : k ≡ q = factor-of q k qprime first.positive (d q (holds q power)) one in
      ap (λ (n : ℕ). m % n) (sym same) ∙ d m (holds m (before m s))
    where
      ones : (k : ℕ) → k ≡ 1 → (e ^ k) % r ≡ 1 % r → e % r ≡ 1 % r
      ones k z h = sym (ap (λ (n : ℕ). n % r) (ap (λ (n : ℕ). e ^ n) z ∙ pow-one e)) ∙ h

-- ---- the test

-- n = 1 + q h with q prime, e^q = 1 and (e - 1) c = 1 modulo n
module _ (n q h e c : ℕ) (qprime : Prime q) (n-is : n ≡ 1 + q * h) (power : (e ^ q) % n ≡ 1 % n)
    (inverse : ((e - 1) * c) % n ≡ 1 % n) where
  -- each prime divisor is 1 modulo q
  prime-one : (r : ℕ) → Prime r → n % r ≡ 0 → r % q ≡ 1 % q
  prime-one r prime d = made r refl
    where
      other : e % r ≡ 1 % r → ⊥
      other z =
          let small : 1 % r ≡ 1 = mod-eq_of_lt prime.above in
          let gone : (e - 1) % r ≡ 0 = minus_one e z in
          let i : ((e - 1) * c) % r ≡ 1 % r = modulo-divisor n r d ((e - 1) * c) 1 inverse in
          let k : ((e - 1) * c) % r ≡ 0 =
          mul-cong r (e - 1) c 0 c (gone ∙ sym (zero-mod r)) refl ∙ ap (λ (j : ℕ). j % r) (zero-times c) ∙ zero-mod r in
          omega (arith, i, k, small)
        where
          minus_one : (e : ℕ) → e % r ≡ 1 % r → (e - 1) % r ≡ 0
          minus_one zero z = zero-mod r
          minus_one (suc e) z =
              let s : suc e - 1 ≡ e = omega arith in
              let f : e + 1 ≡ suc e = omega arith in
              let g : 1 ≡ 0 + 1 = omega arith in
              ap (λ (k : ℕ). k % r) s
              ∙ cancel r (omega (arith, prime.above)) e 0 1
              (ap (λ (k : ℕ). k % r) f ∙ z ∙ ap (λ (k : ℕ). k % r) g)
              ∙ zero-mod r

      made : (m : ℕ) → r ≡ m → r % q ≡ 1 % q
      made zero s = absurd (omega (arith, prime.above))
      made (suc m) s =
          let z = order-divides r e q prime qprime (modulo-divisor n r d (e ^ q) 1 power) other m s in
          let t : r ≡ m + 1 = omega arith in
          ap (λ (k : ℕ). k % q) t ∙ add_cong q m 1 0 1 (z ∙ sym (zero-mod q)) refl

  -- and so is each divisor
  divisor-one : (f a b : ℕ) → a ≤ f → 0 < a → a * b ≡ n → a % q ≡ 1 % q
  divisor-one zero a b l pos s = absurd (omega arith)
  divisor-one (suc f) a b l pos s =
      elim (dec_lt 1 a) [
        | no g ↦ (let one : a ≡ 1 = omega arith in ap (λ (k : ℕ). k % q) one)
        | yes g ↦ split a b l g s (prime-divisor a g) (divisor-one f)
      ]
    where
      split : (a b : ℕ) → a ≤ suc f → 1 < a → a * b ≡ n → (r : ℕ) × (Prime r × (a % r ≡ 0))
          → ((a b : ℕ) → a ≤ f → 0 < a → a * b ≡ n → a % q ≡ 1 % q) → a % q ≡ 1 % q
      split a b l g s (r, (prime, d)) next =
          let k : ℕ = a / r in
          let a-is : r * k ≡ a = factor a r d in
          let twice : 2 * k ≤ r * k = mul-le-mul_right k prime.above in
          let pos-k : 0 < k = positive k (λ (z : k ≡ 0). omega (arith, ap (λ (j : ℕ). r * j) z)) in
          let n-r : r * (k * b) ≡ n = omega (arith, ap (λ (j : ℕ). j * b) a-is) in
          let n-k : k * (r * b) ≡ n = omega (arith, ap (λ (j : ℕ). j * b) a-is) in
          let r-n : n % r ≡ 0 = ap (λ (j : ℕ). j % r) (sym n-r) ∙ multiple r (k * b) in
          ap (λ (j : ℕ). j % q) (sym a-is)
          ∙ mul-cong q r k 1 1 (prime-one r prime r-n) (next k (r * b) (omega arith) pos-k n-k)

  -- what is 1 modulo q, and above 1, is 1 and a multiple of q
  above-one : (a : ℕ) → 1 < a → a % q ≡ 1 % q → (a ≡ 1 + q * (a / q)) × (0 < a / q)
  above-one a g z =
      let small : 1 % q ≡ 1 = mod-eq_of_lt qprime.above in
      let d = div-add-mod a q in
      let is : a ≡ 1 + q * (a / q) = omega arith in
      (is, positive (a / q) (λ (z : a / q ≡ 0). omega (arith, ap (λ (j : ℕ). q * j) z)))

  sum-product : (i j : ℕ) → 0 < i → 0 < j → i + j ≤ i * j + 1
  sum-product zero j hi hj = omega arith
  sum-product (suc i) zero hi hj = absurd (omega arith)
  sum-product (suc i) (suc j) hi hj = omega arith

  quotient : (i j : ℕ) → h ≡ i + j + q * (i * j) → 0 < i → 0 < j → h / q + 1 < h % q → ⊥
  quotient i j e hi hj test =
      let pos : 0 < q = omega (arith, qprime.above) in
      let d = div-add-mod h q in
      let l = mod-lt h pos in
      let s = sum-product i j hi hj in
      let f : i + j + q * (i * j) ≡ q * (i * j) + (i + j) = omega arith in
      elim (dec_lt (h / q) (i * j)) [
        | yes g ↦ (let m = mul-le-mul_left q g in omega arith)
        | no g ↦ (
            let low : i + j < q = omega arith in
            let same : h % q ≡ i + j =
            more q h (i + j) (i * j) e ∙ mod-eq_of_lt low in
            omega arith)
      ]

  pub pocklington : 0 < h → h / q + 1 < h % q → Prime n
  pocklington hpos test = record { above = above; whole = whole }
    where
      above : 1 < n
      above =
          let m : 1 * 1 ≤ q * h = mul-le-mul {n₁ = 1} {m₁ = 1} {n₂ = q} {m₂ = h} (omega (arith, qprime.above)) hpos in
          omega arith

      whole : (a b : ℕ) → a * b ≡ n → 1 < a → 1 < b → ⊥
      whole a b s ha hb =
          let swapped : b * a ≡ n = omega arith in
          let x = above-one a ha (divisor-one a a b (le_refl a) (omega arith) s) in
          let y = above-one b hb (divisor-one b b a (le_refl b) (omega arith) swapped) in
          let i : ℕ = a / q in
          let j : ℕ = b / q in
          let ab : (1 + q * i) * (1 + q * j) ≡ a * b = ap₂ (λ (u v : ℕ). u * v) (sym x.0) (sym y.0) in
          let all : q * h ≡ q * (i + j + q * (i * j)) = multiplied q i j h (ab ∙ s ∙ n-is) in
          quotient i j (eq_of_mul-eq-mul_left q (omega (arith, qprime.above)) h (i + j + q * (i * j)) all) x.1
          y.1 test
        where
          multiplied : (q i j h : ℕ) → (1 + q * i) * (1 + q * j) ≡ 1 + q * h → q * h ≡ q * (i + j + q * (i * j))
          multiplied q i j h e = omega arith

-- The same as tests that antt can compute: the power by squarings, of an exponent of k bits.
unfoldable pub certifies : ℕ → ℕ → ℕ → ℕ → ℕ → ℕ → Bool
certifies n q h e c k =
    eqb n (1 + q * h) && ltb 0 h && ltb (h / q + 1) (h % q) && ltb q (2 ^ k)
    && eqb (by_bits n k e q 1 % n) (1 % n) && eqb (((e - 1) * c) % n) (1 % n)

pub by-certificate : (n q h e c k : ℕ) → Prime q → certifies n q h e c k ≡ true → Prime n
unfolding certifies
by-certificate n q h e c k qprime t =
    let inverse = both _ (eqb (((e - 1) * c) % n) (1 % n)) t in
    let power = both _ (eqb (by_bits n k e q 1 % n) (1 % n)) inverse.0 in
    let low = both _ (ltb q (2 ^ k)) power.0 in
    let test = both _ (ltb (h / q + 1) (h % q)) low.0 in
    let is = both (eqb n (1 + q * h)) (ltb 0 h) test.0 in
    pocklington n q h e c qprime (eqb-true n (1 + q * h) is.0)
    (sym (power-is n k e q (ltb-true q (2 ^ k) low.1)) ∙ eqb-true _ _ power.1) (eqb-true _ _ inverse.1)
    (ltb-true 0 h is.1) (ltb-true (h / q + 1) (h % q) test.1)
