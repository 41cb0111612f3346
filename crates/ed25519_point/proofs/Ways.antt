-- A law for each way out of `signed`, `recover_x` and `decode`.
use Prim.Native.Nat.{ℕ, zero, suc, ◌-◌, ◌/◌, ◌%◌, ◌^◌, ◌<◌}
use mathlib.Core.Path.{◌≡◌, sym, ap, ◌∙◌}
use mathlib.Core.Bool.{Bool, true, false}
use mathlib.Core.List.{List}
use native.Mathlib.Omega.{arith}
use native.Mathlib.Nat.{mod-eq_of_lt, zero-add}
use borrow.Author.Tests.{ltb-true, eq-eqb, ne_eqb}
use lib.Dec.{ltb}
use Rattle.laws.specs.Numbers.{le}
use Rattle.ed25519_field.specs.Field.{p, sub_f, mul_f}
use Rattle.ed25519_point.specs.Decoding.{Root, some, none, signed_of, recover_x, after_root}
use Rattle.ed25519_point.specs.Decoding.{no_point, with_x, decode_of}

-- p - x, of an element that is not 0
pub minus_is : (x : ℕ) → 0 < x → x < p → sub_f 0 x ≡ p - x
unfolding sub_f
minus_is x h g = ap (λ (n : ℕ). n % p) (zero-add (p - x)) ∙ mod-eq_of_lt (omega arith)

-- `signed`: the last two ways out have another bit than x = 0 with the sign 1
pub signed-none : (sign x : ℕ) → x ≡ 0 → sign ≡ 1 → none ≡ signed_of sign x
unfolding signed_of
signed-none sign x e f = rw (e, f)

pub signed-same : (sign x : ℕ) → x % 2 ≡ sign → some x ≡ signed_of sign x
unfolding signed_of
signed-same sign zero e = rw (← e)
signed-same sign (suc x) e =
    rw (ne_eqb (suc x) 0 (λ (z : suc x ≡ 0). omega arith), eq-eqb sign (suc x % 2) (sym e))

pub signed-other : (sign x y : ℕ) → x < p → (x ≡ 0 → ⊥) → (x % 2 ≡ sign → ⊥) → y ≡ sub_f 0 x → some y ≡ signed_of sign x
unfolding signed_of
signed-other sign x y l e f g =
    rw (ne_eqb x 0 e, ne_eqb sign (x % 2) (λ (q : sign ≡ x % 2). f (sym q)))
    (ap some (g ∙ minus_is x (omega arith) l))

-- `recover_x`
pub x-found : (R S : Root) (sign x : ℕ) → some x ≡ R → S ≡ signed_of sign x → S ≡ after_root R (signed_of sign)
x-found R S sign x e f = rw (← e) f

pub x-lost : (R : Root) (sign : ℕ) → none ≡ R → none ≡ after_root R (signed_of sign)
x-lost R sign e = rw (← e)

-- `decode`
module _ (s : List ℕ) (v y : ℕ) (ev : le 32 s 0 ≡ v) (ey : y ≡ v % 2 ^ 255) where
  pub decode-below : (n : ℕ) (b : Bool) (r : Root) (sign : ℕ) → b ≡ ltb y p → b ≡ true → n ≡ y % p
      → sign ≡ v / 2 ^ 255 % 2 → r ≡ recover_x n sign → with_x n r ≡ decode_of s
  unfolding decode_of
  decode-below n b r sign e t f g h =
      let lt : ltb y p ≡ true = sym e ∙ t in
      let m : n ≡ y = f ∙ mod-eq_of_lt (ltb-true y p lt) in
      rw (ev, ← ey, lt) (rw (h, g, m))

  pub decode-none : (b : Bool) → b ≡ ltb y p → b ≡ false → no_point ≡ decode_of s
  unfolding decode_of
  decode-none b e t = let lt : ltb y p ≡ false = sym e ∙ t in rw (ev, ← ey, lt)

pub point-is : (y x z t : ℕ) → z ≡ 1 → t ≡ mul_f x y
    → record { ok = true; point = record { X = x; Y = y; Z = z; T = t } } ≡ with_x y (some x)
point-is y x z t f g = rw (f, g)
