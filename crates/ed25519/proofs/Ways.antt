-- A law for each way out of `check` and `verify_parts`, and what is known of S and k in limbs and of a digest in bytes.
use Prim.Native.Nat.{ℕ, ◌+◌, ◌%◌, ◌^◌, ◌≤◌, ◌<◌}
use mathlib.Core.Path.{◌≡◌, sym, ap, ◌∙◌}
use mathlib.Core.Bool.{Bool, true, false}
use mathlib.Core.List.{List, ◌++◌}
use native.Mathlib.Nat.{mod-lt, lt_trans}
use borrow.Author.Tests.{ltb-true, lt-ltb, le-ltb, eq-eqb, ne_eqb}
use lib.Dec.{ltb, lit<}
use lib.ListN.{length, take, drop}
use Rattle.laws.specs.Numbers.{le}
use Rattle.digits.specs.Digits.{value}
use Rattle.digits.proofs.Numbers.{le-bytes}
use Rattle.sha512.specs.Computation.{Sha512}
use Rattle.sha512.proofs.Digested.{Sha512-long}
use Rattle.ed25519_field.specs.Field.{p}
use Rattle.ed25519_field.specs.Limbs.{radix, Digits}
use Rattle.ed25519_field.specs.Residue.{Low}
use Rattle.ed25519_field.proofs.Reducing.{each_below}
use Rattle.ed25519_scalar.specs.Order.{L}
use Rattle.ed25519_scalar.proofs.Steps.{L-pos}
use Rattle.ed25519_point.specs.Decoding.{Decoding, decode_of}
use Rattle.ed25519_group_laws.proofs.Decoded.{decoded-stands}
use Rattle.ed25519_windows.specs.Windows.{Itself}
use Rattle.ed25519.specs.Verification.{k_of, group_equation, accepts, verifies, verifies_parts}

-- a number modulo L has limbs below the radix
L-p : L < p
unfolding L p
L-p = lit< tt

pub scalar-each : (l : List ℕ) (x : ℕ) → Low l → value radix l ≡ x % L → Digits l
scalar-each l x h e = each_below l h (rw e (lt_trans (mod-lt x L-pos) L-p))

pub below_each : (l : List ℕ) (v : ℕ) (b : Bool) → Low l → value radix l ≡ v → b ≡ ltb v L → b ≡ true → Digits l
below_each l v b h e f t = each_below l h (rw e (lt_trans (ltb-true v L (sym f ∙ t)) L-p))

pub hash-each : (l r a m : List ℕ) → Low l → value radix l ≡ k_of r a m → Digits l
unfolding k_of
hash-each l r a m h e = scalar-each l _ h e

-- the number in a digest
pub digest-number : (m d : List ℕ) → d ≡ Sha512 m → value 256 d ≡ le 64 (Sha512 m) 0
digest-number m d e = ap (value 256) e ∙ sym (le-bytes 64 (Sha512 m) (Sha512-long m))

-- what is decoded stands for itself
pub decoded-itself : (s : List ℕ) (D : Decoding) → D ≡ decode_of s → D.ok ≡ true → Itself D.point
decoded-itself s D e t = rw e (decoded-stands s (rw e at t))

-- `check`, where both decode: v is the number in the bytes s
module _ (key m r s : List ℕ) (A R : Decoding) (ea : A ≡ decode_of key) (ta : A.ok ≡ true) (er : R ≡ decode_of r)
    (tr : R.ok ≡ true) (v : ℕ) (ev : le 32 s 0 ≡ v) where
  pub check-high : ltb v L ≡ false → false ≡ accepts key m r s
  check-high e = rw (← ea, ta, ← er, tr, ev, e)

  pub check-low : (z : Bool) (S k : ℕ) → ltb v L ≡ true → S ≡ v → k ≡ k_of r key m
      → z ≡ group_equation A.point R.point S k → z ≡ accepts key m r s
  check-low z S k e f g h = rw (← ea, ta, ← er, tr, ev, e) (h ∙ (rw (f, g)))

-- `verify_parts`
module _ (key context text sig : List ℕ) where
  pub parts-1 : 2 ^ 64 ≤ 64 + (length context + length text) → false ≡ verifies_parts key context text sig
  unfolding verifies_parts
  parts-1 h = rw (le-ltb (64 + (length context + length text)) (2 ^ 64) h)

  module _ (fits : 64 + (length context + length text) < 2 ^ 64) where
    -- the text in two parts is the text
    pub parts_whole : verifies_parts key context text sig ≡ verifies key (context ++ text) sig
    unfolding verifies_parts
    parts_whole = rw (lt-ltb (64 + (length context + length text)) (2 ^ 64) fits)

    pub parts-2 : (length key ≡ 32 → ⊥) → false ≡ verifies_parts key context text sig
    unfolding verifies
    parts-2 h = rw (parts_whole, ne_eqb (length key) 32 h)

    pub parts-3 : length key ≡ 32 → (length sig ≡ 64 → ⊥) → false ≡ verifies_parts key context text sig
    unfolding verifies
    parts-3 g h = rw (parts_whole, eq-eqb (length key) 32 g, ne_eqb (length sig) 64 h)

    pub parts-4 : (b : Bool) → length key ≡ 32 → length sig ≡ 64
        → b ≡ accepts key (context ++ text) (take 32 sig) (drop 32 sig) → b ≡ verifies_parts key context text sig
    unfolding verifies
    parts-4 b g h e = rw (parts_whole, eq-eqb (length key) 32 g, eq-eqb (length sig) 64 h) e
