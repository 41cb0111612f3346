-- S by remainders that are taken early, and a number below L in 32 bytes.
use Prim.Native.Nat.{ℕ, ◌+◌, ◌*◌, ◌%◌, ◌^◌, ◌<◌}
use mathlib.Core.Path.{◌≡◌, refl, sym, ◌∙◌}
use mathlib.Core.List.{List}
use native.Mathlib.Nat.{mod-mod, mod-lt, lt_trans}
use lib.Dec.{lit<}
use Rattle.laws.specs.Numbers.{le_bytes}
use Rattle.laws.proofs.Numbers.{le-written, length-le_bytes}
use Rattle.digits.specs.Digits.{value}
use Rattle.digits.proofs.Mods.{add_cong, mul-cong}
use Rattle.digits.proofs.Numbers.{le-bytes}
use Rattle.ed25519_scalar.specs.Order.{L}
use Rattle.ed25519_scalar.proofs.Steps.{L-pos}

-- a number modulo L is below L, and so 32 bytes hold it
pub rest_below : {v : ℕ} (n : ℕ) → v ≡ n % L → v < L
rest_below n e = rw e (mod-lt n L-pos)

L-fits : L < 2 ^ 256
unfolding L
L-fits = lit< tt

pub below-fits : {v : ℕ} → v < L → v < 2 ^ 256
below-fits h = lt_trans h L-fits

-- the number in the bytes of a number
pub number-again : (v : ℕ) (s : List ℕ) → v < L → s ≡ le_bytes 32 v → value 256 s ≡ v
number-again v s h e =
    rw e (sym (le-bytes 32 (le_bytes 32 v) (length-le_bytes 32 v)) ∙ le-written 32 v (below-fits h))

-- (r + k s) mod L, with the remainder taken of k s, and of k
early : (r k s : ℕ) → (r + k * s % L) % L ≡ (r + k % L * s) % L
early r k s =
    add_cong L r (k * s % L) r (k % L * s) refl
    (mod-mod (k * s) L ∙ mul-cong L k s (k % L) s (sym (mod-mod k L)) refl)

-- as code makes it: l is s in limbs, t is k s, and q is S
pub second_is : (r k s l t q : ℕ) (b : List ℕ) → l ≡ s → t ≡ k * l % L → q ≡ (r + t) % L → b ≡ le_bytes 32 q
    → b ≡ le_bytes 32 ((r + k % L * s) % L)
second_is r k s l t q b l-is t-is q-is b-is = rw (b-is, q-is, t-is, l-is, early r k s)
