-- Fermat's theorem: x to the power r - 1 is 1 modulo a prime r that does not divide x.
use Prim.Native.Nat.{ℕ, zero, suc, ◌+◌, ◌-◌, ◌*◌, ◌%◌, ◌^◌, ◌≤◌, ◌<◌}
use mathlib.Core.Path.{◌≡◌, refl, sym, ap, ◌∙◌}
use native.Mathlib.Omega.{arith}
use native.Mathlib.Nat.{pow-zero, pow-suc, zero-mod}
use Rattle.digits.proofs.Mods.{add_cong, mul-cong, cancel}
use Rattle.ed25519_prime_laws.specs.Prime.{Prime}
use Rattle.ed25519_prime_laws.proofs.Small.{positive}
use Rattle.ed25519_prime_laws.proofs.Euclid.{euclid}
use Rattle.ed25519_prime_laws.proofs.Binomial.{choose, choose-all, prime-divides, terms, binomial}

module _ (m : ℕ) (prime : Prime (suc m)) where
  -- of the terms before the last only the first counts
  first-terms : (x j : ℕ) → j ≤ m → terms x (suc m) (suc j) % suc m ≡ 1 % suc m
  unfolding terms choose
  first-terms x zero h =
      let e : 0 + 1 * x ^ 0 ≡ 1 = rw pow-zero (omega arith) in
      ap (λ (n : ℕ). n % suc m) e
  first-terms x (suc j) h =
      let c : ℕ = choose (suc m) (suc j) in
      let z : terms x (suc m) (suc j) + 0 * x ^ suc j ≡ terms x (suc m) (suc j) = omega arith in
      add_cong (suc m) (terms x (suc m) (suc j)) (c * x ^ suc j) (terms x (suc m) (suc j)) (0 * x ^ suc j) refl
      (mul-cong (suc m) c (x ^ suc j) 0 (x ^ suc j) (prime-divides m j prime (omega arith)
      ∙ sym (zero-mod (suc m))) refl)
      ∙ ap (λ (n : ℕ). n % suc m) z
      ∙ first-terms x j (omega arith)

  -- (x + 1)^r is 1 + x^r modulo r
  sum-power : (x : ℕ) → ((x + 1) ^ suc m) % suc m ≡ (1 + x ^ suc m) % suc m
  unfolding terms
  sum-power x =
      let last : choose (suc m) (suc m) * x ^ suc m ≡ x ^ suc m =
      ap (λ (n : ℕ). n * x ^ suc m) (choose-all (suc m)) ∙ omega arith in
      ap (λ (n : ℕ). n % suc m) (binomial x (suc m))
      ∙ add_cong (suc m) (terms x (suc m) (suc m)) (choose (suc m) (suc m) * x ^ suc m) 1 (x ^ suc m)
      (first-terms x m (omega arith)) (ap (λ (n : ℕ). n % suc m) last)

  pub power-same : (x : ℕ) → (x ^ suc m) % suc m ≡ x % suc m
  power-same zero =
      let e : 0 ^ m * 0 ≡ 0 = omega arith in
      ap (λ (n : ℕ). n % suc m) (pow-suc 0 m ∙ e)
  power-same (suc x) =
      let s : suc x ≡ x + 1 = omega arith in
      let t : 1 + x ≡ suc x = omega arith in
      ap (λ (n : ℕ). (n ^ suc m) % suc m) s
      ∙ sum-power x
      ∙ add_cong (suc m) 1 (x ^ suc m) 1 x refl (power-same x)
      ∙ ap (λ (n : ℕ). n % suc m) t

  pow-positive : (x n : ℕ) → 0 < x → 0 < x ^ n
  pow-positive x zero h = rw pow-zero (omega arith)
  pow-positive x (suc n) h =
      let e = pow-positive x n h in
      let g : 1 ≤ x ^ n * x = mul-positive (x ^ n) x e h in
      rw pow-suc g
    where
      mul-positive : (a b : ℕ) → 0 < a → 0 < b → 1 ≤ a * b
      mul-positive zero b h g = absurd (omega arith)
      mul-positive (suc a) zero h g = absurd (omega arith)
      mul-positive (suc a) (suc b) h g = omega arith

  pub fermat : (x : ℕ) → (x % suc m ≡ 0 → ⊥) → (x ^ m) % suc m ≡ 1 % suc m
  fermat x h =
      let e : x ^ m - 1 + 1 ≡ x ^ m = omega (arith, pow-positive x m above) in
      one (x ^ m - 1) e (below (x ^ m - 1) e)
    where
      above : 0 < x
      above = positive x (λ (z : x ≡ 0). h (ap (λ (n : ℕ). n % suc m) z ∙ zero-mod (suc m)))

      -- x (x^m - 1) is 0
      below : (k : ℕ) → k + 1 ≡ x ^ m → k % suc m ≡ 0
      below k e =
          let s : k * x + x ≡ x ^ m * x = omega (arith, ap (λ (n : ℕ). n * x) e) in
          let z : x ≡ 0 + x = omega arith in
          euclid (suc m) x prime h k
          (cancel (suc m) (omega arith) (k * x) 0 x
          (ap (λ (n : ℕ). n % suc m) (s ∙ sym (pow-suc x m)) ∙ power-same x ∙ ap (λ (n : ℕ). n % suc m) z)
          ∙ zero-mod (suc m))

      one : (k : ℕ) → k + 1 ≡ x ^ m → k % suc m ≡ 0 → (x ^ m) % suc m ≡ 1 % suc m
      one k e z =
          ap (λ (n : ℕ). n % suc m) (sym e) ∙ add_cong (suc m) k 1 0 1 (z ∙ sym (zero-mod (suc m))) refl
