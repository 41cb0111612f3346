-- Where u/v is the square of x, the decoding finds a root, and that is x or -x.
use Prim.Native.Nat.{ℕ, zero, suc, ◌+◌, ◌-◌, ◌*◌, ◌/◌, ◌%◌, ◌^◌, ◌<◌}
use mathlib.Core.Path.{◌≡◌, refl, sym, ap, ap₂, ◌∙◌}
use mathlib.Core.Bool.{Bool, true, false, cond}
use mathlib.Core.Logic.{◌⊎◌, inl, inr, ⊎_elim}
use native.Mathlib.Omega.{arith}
use native.Mathlib.Decide.{ℕ_discrete, dec_lt}
use native.Mathlib.Nat.{zero-mod, mod-mod, mod-eq_of_lt, pow-zero, pow-suc}
use borrow.Author.Tests.{eq-eqb}
use lib.Dec.{eqb}
use lib.Pow.{pow-add}
use Rattle.digits.proofs.Mods.{mul-cong, pow-mod, pow-pow, more, cancel}
use Rattle.ed25519_field.specs.Field.{p, sub_f, mul_f, pow_f}
use Rattle.ed25519_field.proofs.Modulus.{p-pos}
use Rattle.ed25519_field.proofs.Elements.{difference}
use Rattle.ed25519_point.specs.Decoding.{some, none, sqrt_m1, candidate_of, chosen, root_of}
use Rattle.ed25519_prime_laws.proofs.Small.{pow-one, zero-times, times_zero}
use Rattle.ed25519_prime_laws.proofs.Squares.{no-zero-divisors, times-other, power-other, one_power, root-of-one}

-- the exponents
quarter : 2 * ((p - 5) / 8) + 1 ≡ (p - 1) / 4
unfolding p
quarter = refl

half : 2 * ((p - 1) / 4) * 2 ≡ p - 1
unfolding p
half = refl

-- powers of a product, and of a power modulo p
product-power : (a b n : ℕ) → (a * b) ^ n ≡ a ^ n * b ^ n
product-power a b zero = rw (pow-zero, pow-zero, pow-zero) (omega arith)
product-power a b (suc n) =
    let e : (a * b) ^ n * (a * b) ≡ a ^ n * b ^ n * (a * b) = ap (λ (k : ℕ). k * (a * b)) (product-power a b n) in
    rw (pow-suc, pow-suc, pow-suc) (omega arith)

power-cong : (a b n : ℕ) → a % p ≡ b % p → (a ^ n) % p ≡ (b ^ n) % p
power-cong a b n e = pow-mod p a n ∙ ap (λ (k : ℕ). (k ^ n) % p) e ∙ sym (pow-mod p b n)

module _ (u v x : ℕ) (u-below : u < p) (v-other : v % p ≡ 0 → ⊥) (solves : (v * (x * x)) % p ≡ u) where
  E : ℕ
  E = (p - 5) / 8

  W : ℕ
  W = u * v ^ 7

  c : ℕ
  c = candidate_of u v

  -- c = u v^3 (u v^7)^E
  c-is : c % p ≡ (u * v ^ 3 * W ^ E) % p
  unfolding c candidate_of W E mul_f pow_f
  c-is =
      let a : ℕ = (u * (v ^ 3 % p)) % p in
      let w : ℕ = (u * (v ^ 7 % p)) % p in
      let a-is : a % p ≡ (u * v ^ 3) % p =
      mod-mod (u * (v ^ 3 % p)) p ∙ mul-cong p u (v ^ 3 % p) u (v ^ 3) refl (mod-mod (v ^ 3) p) in
      let w-is : w % p ≡ (u * v ^ 7) % p =
      mod-mod (u * (v ^ 7 % p)) p ∙ mul-cong p u (v ^ 7 % p) u (v ^ 7) refl (mod-mod (v ^ 7) p) in
      mod-mod (a * (w ^ ((p - 5) / 8) % p)) p
      ∙ mul-cong p a (w ^ ((p - 5) / 8) % p) (u * v ^ 3) ((u * v ^ 7) ^ ((p - 5) / 8)) a-is
      (mod-mod (w ^ ((p - 5) / 8)) p ∙ power-cong w (u * v ^ 7) ((p - 5) / 8) w-is)

  -- v c^2 = u W^((p-1)/4)
  square-is : (v * (c * c)) % p ≡ (u * W ^ ((p - 1) / 4)) % p
  unfolding W E
  square-is =
      let w : ℕ = (u * v ^ 7) ^ ((p - 5) / 8) in
      let a : ℕ = u * v ^ 3 * w in
      let v7 : v * (v ^ 3 * v ^ 3) ≡ v ^ 7 = sevenths v in
      let s : v * (a * a) ≡ u * (w * w * (u * v ^ 7)) =
      regroup u v (v ^ 3) (v ^ 7) w (ap (λ (k : ℕ). u * u * w * w * k) v7) in
      let e : (u * v ^ 7) ^ ((p - 1) / 4) ≡ w * w * (u * v ^ 7) =
      odd_power (u * v ^ 7) ((p - 5) / 8) ((p - 1) / 4) quarter in
      mul-cong p v (c * c) v (a * a) refl (mul-cong p c c a a c-is c-is)
      ∙ ap (λ (k : ℕ). k % p) (s ∙ ap (λ (k : ℕ). u * k) (sym e))
    where
      sevenths : (v : ℕ) → v * (v ^ 3 * v ^ 3) ≡ v ^ 7
      sevenths v =
          let t : v ^ 7 ≡ v ^ 1 * v ^ 6 = pow-add v 1 6 in
          let f : v ^ 6 ≡ v ^ 3 * v ^ 3 = pow-add v 3 3 in
          sym (t ∙ ap₂ (λ (a b : ℕ). a * b) (pow-one v) f)

      regroup : (u v v3 v7 w : ℕ) → u * u * w * w * (v * (v3 * v3)) ≡ u * u * w * w * v7
          → v * (u * v3 * w * (u * v3 * w)) ≡ u * (w * w * (u * v7))
      regroup u v v3 v7 w e = omega arith

      odd_power : (a k n : ℕ) → 2 * k + 1 ≡ n → a ^ n ≡ a ^ k * a ^ k * a
      odd_power a k n e =
          let s : n ≡ suc (k + k) = omega arith in
          ap (λ (j : ℕ). a ^ j) s ∙ pow-suc a (k + k) ∙ ap (λ (j : ℕ). j * a) (pow-add a k k)

  -- W = (x v^4)^2
  z : ℕ
  z = x * v ^ 4

  W-is : W % p ≡ (z * z) % p
  unfolding W z
  W-is =
      let v8 : v ^ 4 * v ^ 4 ≡ v ^ 7 * v = sym (pow-add v 4 4) ∙ pow-suc v 7 in
      let s : v * (x * x) * v ^ 7 ≡ x * v ^ 4 * (x * v ^ 4) =
      summed x v (v ^ 4) (v ^ 7) (ap (λ (k : ℕ). x * x * k) v8) in
      mul-cong p u (v ^ 7) (v * (x * x)) (v ^ 7) (mod-eq_of_lt u-below ∙ sym solves) refl ∙ ap (λ (k : ℕ). k % p) s
    where
      summed : (x v v4 v7 : ℕ) → x * x * (v4 * v4) ≡ x * x * (v7 * v) → v * (x * x) * v7 ≡ x * v4 * (x * v4)
      summed x v v4 v7 e = omega arith

  -- a root of 1: t = (x v^4)^((p-1)/2)
  t : ℕ
  t = (z * z) ^ ((p - 1) / 4)

  t-is : (W ^ ((p - 1) / 4)) % p ≡ t % p
  unfolding t
  t-is = power-cong W (z * z) ((p - 1) / 4) W-is

  z-other : (x % p ≡ 0 → ⊥) → z % p ≡ 0 → ⊥
  unfolding z
  z-other h = times-other x (v ^ 4) h (power-other v 4 v-other)

  t-squared : (x % p ≡ 0 → ⊥) → (t * t) % p ≡ 1 % p
  unfolding t
  t-squared h =
      let k : ℕ = (p - 1) / 4 in
      let zz : z * z ≡ z ^ 2 = sym (pow-suc z 1 ∙ ap (λ (j : ℕ). j * z) (pow-one z)) in
      let s : (z * z) ^ k * (z * z) ^ k ≡ z ^ (p - 1) =
      (sym (pow-add (z * z) k k)
      ∙ ap (λ (j : ℕ). j ^ (k + k)) zz
      ∙ pow-pow z 2 (k + k)
      ∙ ap (λ (j : ℕ). z ^ j) (doubled k (p - 1) half)) in
      ap (λ (j : ℕ). j % p) s ∙ one_power z (z-other h)
    where
      doubled : (k n : ℕ) → 2 * k * 2 ≡ n → 2 * (k + k) ≡ n
      doubled k n e = omega arith

  -- v c^2 as an element
  w : ℕ
  w = mul_f v (mul_f c c)

  w-is : w ≡ (u * t) % p
  unfolding w mul_f
  w-is =
      mul-cong p v ((c * c) % p) v (c * c) refl (mod-mod (c * c) p)
      ∙ square-is
      ∙ mul-cong p u (W ^ ((p - 1) / 4)) u t refl t-is

  -- where x is 0, u is, and so v c^2 is
  zero-fits : x % p ≡ 0 → w ≡ u
  zero-fits h =
      let n : v * (x * x) ≡ x * (v * x) = omega arith in
      let u-zero : u ≡ 0 =
      (sym solves
      ∙ ap (λ (k : ℕ). k % p) n
      ∙ mul-cong p x (v * x) 0 (v * x) (h ∙ sym (zero-mod p)) refl
      ∙ ap (λ (k : ℕ). k % p) (zero-times (v * x))
      ∙ zero-mod p) in
      w-is ∙ ap (λ (k : ℕ). (k * t) % p) u-zero ∙ ap (λ (k : ℕ). k % p) (zero-times t) ∙ zero-mod p ∙ sym u-zero

  -- v c^2 is u or -u
  candidate-fits : (w ≡ u) ⊎ (w ≡ sub_f 0 u)
  candidate-fits =
      elim (ℕ_discrete (x % p) 0) [
        | yes h ↦ inl (zero-fits h)
        | no h ↦ ⊎_elim plus minus (root-of-one t (t-squared h))
      ]
    where
      plus : t % p ≡ 1 % p → (w ≡ u) ⊎ (w ≡ sub_f 0 u)
      plus e =
          let s : u * 1 ≡ u = omega arith in
          inl (w-is ∙ mul-cong p u t u 1 refl e ∙ ap (λ (k : ℕ). k % p) s ∙ mod-eq_of_lt u-below)

      minus : (t + 1) % p ≡ 0 → (w ≡ u) ⊎ (w ≡ sub_f 0 u)
      minus e =
          let s : u * t + u ≡ u * (t + 1) = omega arith in
          let g : (u * t + u) % p ≡ 0 % p =
          ap (λ (k : ℕ). k % p) s ∙ mul-cong p u (t + 1) u 0 refl (e ∙ sym (zero-mod p))
          ∙ ap (λ (k : ℕ). k % p) (times_zero u) in
          inr (w-is ∙ sym (difference 0 u (u * t) (omega arith) g))

  pub root-found : (root_of u v).ok ≡ true
  unfolding root_of w c
  root-found = ⊎_elim first second candidate-fits
    where
      first : mul_f v (mul_f (candidate_of u v) (candidate_of u v)) ≡ u
          → (chosen u (mul_f v (mul_f (candidate_of u v) (candidate_of u v))) (candidate_of u v)).ok ≡ true
      first e = rw (eq-eqb (mul_f v (mul_f (candidate_of u v) (candidate_of u v))) u e)

      pick : (b : Bool) (n : ℕ) → (cond b (some (candidate_of u v)) (cond true (some n) none)).ok ≡ true
      pick true n = refl
      pick false n = refl

      second : mul_f v (mul_f (candidate_of u v) (candidate_of u v)) ≡ sub_f 0 u
          → (chosen u (mul_f v (mul_f (candidate_of u v) (candidate_of u v))) (candidate_of u v)).ok ≡ true
      second e =
          rw (eq-eqb (mul_f v (mul_f (candidate_of u v) (candidate_of u v))) (sub_f 0 u) e)
          (pick (eqb (mul_f v (mul_f (candidate_of u v) (candidate_of u v))) u) (mul_f (candidate_of u v) sqrt_m1))

-- Two roots of the same are each other, or each other's negative.
pub two-roots : (v r x : ℕ) → (v % p ≡ 0 → ⊥) → r < p → x < p → (v * (r * r)) % p ≡ (v * (x * x)) % p
    → (r ≡ x) ⊎ (r + x ≡ p)
two-roots v r x other hr hx e =
    let k : ℕ = p - x in
    let k-is : k + x ≡ p = omega arith in
    let s : (r + x) * (r + k) * v + v * (x * x) ≡ v * (r * r) + p * (v * (r + x)) =
    expanded v r x k p (ap (λ (j : ℕ). j * (v * r)) k-is) (ap (λ (j : ℕ). j * (v * x)) k-is) in
    let zero-plus : v * (x * x) ≡ 0 + v * (x * x) = omega arith in
    let gone : ((r + x) * (r + k) * v) % p ≡ 0 =
    (cancel p p-pos ((r + x) * (r + k) * v) 0 (v * (x * x))
    (more p ((r + x) * (r + k) * v + v * (x * x)) (v * (r * r)) (v * (r + x)) s ∙ e ∙ ap (λ (j : ℕ). j % p) zero-plus)
    ∙ zero-mod p) in
    ⊎_elim (λ (h : ((r + x) * (r + k)) % p ≡ 0). ⊎_elim sum minus (no-zero-divisors (r + x) (r + k) h))
    (λ (h : v % p ≡ 0). absurd (other h)) (no-zero-divisors ((r + x) * (r + k)) v gone)
  where
    expanded : (v r x k m : ℕ) → (k + x) * (v * r) ≡ m * (v * r) → (k + x) * (v * x) ≡ m * (v * x)
        → (r + x) * (r + k) * v + v * (x * x) ≡ v * (r * r) + m * (v * (r + x))
    expanded v r x k m f g = omega arith

    -- below 2 p a multiple of p is 0 or p
    small : (n : ℕ) → n < p + p → n % p ≡ 0 → (n ≡ 0) ⊎ (n ≡ p)
    small n h z =
        elim (ℕ_discrete n 0) [
          | yes g ↦ inl g
          | no g ↦ inr (once n g h z)
        ]
      where
        once : (n : ℕ) → (n ≡ 0 → ⊥) → n < p + p → n % p ≡ 0 → n ≡ p
        once n g h z =
            elim (dec_lt n p) [
              | yes l ↦ absurd (g (sym (mod-eq_of_lt l) ∙ z))
              | no l ↦ (
                  let s : n ≡ n - p + p * 1 = omega arith in
                  let f : (n - p) % p ≡ 0 = sym (more p n (n - p) 1 s) ∙ z in
                  omega (arith, sym (mod-eq_of_lt {n = n - p} {m = p} (omega arith)) ∙ f))
            ]

    sum : (r + x) % p ≡ 0 → (r ≡ x) ⊎ (r + x ≡ p)
    sum z = ⊎_elim (λ (g : r + x ≡ 0). inl (omega arith)) (λ (g : r + x ≡ p). inr g) (small (r + x) (omega arith) z)

    minus : (r + (p - x)) % p ≡ 0 → (r ≡ x) ⊎ (r + x ≡ p)
    minus z =
        ⊎_elim (λ (g : r + (p - x) ≡ 0). inl (omega arith)) (λ (g : r + (p - x) ≡ p). inl (omega arith))
        (small (r + (p - x)) (omega arith) z)
