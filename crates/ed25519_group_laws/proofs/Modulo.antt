-- Numbers that are the same modulo p. `grw (modulo, e, f)` rewrites by such equations, each at one place; `by` proves
-- one that is a sum of multiples of known ones, where `omega` multiplies out. No sign is needed: `back` turns round.
use Prim.Native.Nat.{ℕ, ◌+◌, ◌*◌, ◌%◌, ◌^◌, ◌<◌}
use mathlib.Core.Path.{◌≡◌, refl, sym, ap, ◌∙◌}
use native.Mathlib.Omega.{arith}
use native.Mathlib.Nat.{mod-eq_of_lt, zero-mod}
use Rattle.digits.proofs.Mods.{add_cong, mul-cong, cancel}
use Rattle.ed25519_field.specs.Field.{p}
use Rattle.ed25519_field.proofs.Modulus.{p-pos, p-large}
use Rattle.ed25519_curve.specs.Equation.{Equal}

-- `Equal` as a type of its own, so that the two numbers are found, and so that `omega` does not look into what is known
pub data Same : ℕ → ℕ → Type 0 where
  known : {m n : ℕ} → Equal m n → Same m n

pub equal : {m n : ℕ} → Same m n → Equal m n
equal (known e) = e

pub same : {m n : ℕ} → m ≡ n → Same m n
same e = known (ap (λ n. n % p) e)

pub itself : {m : ℕ} → Same m m
itself = same refl

pub back : {m n : ℕ} → Same m n → Same n m
back e = known (sym (equal e))

infixr 5 ◌⨾◌
pub ◌⨾◌ : {l m n : ℕ} → Same l m → Same m n → Same l n
e ⨾ f = known (equal e ∙ equal f)

infixl 6 ◌⊕◌
pub ◌⊕◌ : {a b m n : ℕ} → Same a b → Same m n → Same (a + m) (b + n)
◌⊕◌ {a} {b} {m} {n} e f = known (add_cong p a m b n (equal e) (equal f))

infixl 7 ◌⊗◌
pub ◌⊗◌ : {a b m n : ℕ} → Same a b → Same m n → Same (a * m) (b * n)
◌⊗◌ {a} {b} {m} {n} e f = known (mul-cong p a m b n (equal e) (equal f))

infixl 7 ◌⊙◌
pub ◌⊙◌ : {a b : ℕ} (c : ℕ) → Same a b → Same (c * a) (c * b)
c ⊙ e = itself ⊗ e

pub ruleset modulo = (itself, ◌⨾◌, ◌⊕◌, ◌⊗◌)

-- what is added on both sides falls away
take-off : (a b c : ℕ) → Same (a + c) (b + c) → Same a b
take-off a b c e = known (cancel p p-pos a b c (equal e))

-- l - r = a - b
pub by : {a b l r : ℕ} → Same a b → l + b ≡ r + a → Same l r
by {a} {b} {l} {r} e s = take-off l r b (same s ⨾ itself ⊕ e)

-- numbers below p that are the same are equal
pub below : {m n : ℕ} → m < p → n < p → Same m n → m ≡ n
below hm hn e = sym (mod-eq_of_lt hm) ∙ equal e ∙ mod-eq_of_lt hn

-- what is 0, and what is not, as remainders
pub is_zero : (m : ℕ) → m % p ≡ 0 → Same m 0
is_zero m e = known (e ∙ sym (zero-mod p))

pub gone : {m : ℕ} → Same m 0 → m % p ≡ 0
gone e = equal e ∙ zero-mod p

pub not-zero : {m n : ℕ} → Same m n → (n % p ≡ 0 → ⊥) → m % p ≡ 0 → ⊥
not-zero e other z = other (sym (equal e) ∙ z)

-- a small number other than 0 is not 0 modulo p
pub small-other : (n : ℕ) → 0 < n → n < 2 ^ 32 → n % p ≡ 0 → ⊥
small-other n pos low z = omega (arith, mod-eq_of_lt {n = n} {m = p} (omega (arith, p-large)))
