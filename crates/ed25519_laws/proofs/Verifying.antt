-- A signature verifies exactly where the affine equation holds.
use Prim.Native.Nat.{ℕ, ◌+◌, ◌^◌, ◌<◌}
use mathlib.Core.Path.{◌≡◌, refl, ap}
use mathlib.Core.Bool.{Bool, true, false, ◌&&◌}
use mathlib.Core.List.{List, ◌++◌}
use native.Mathlib.Nat.{mod-lt, lt_trans}
use borrow.Author.Tests.{ltb-true}
use lib.Dec.{eqb, ltb}
use lib.ListN.{length, take, drop}
use Rattle.laws.specs.Numbers.{le}
use Rattle.laws.proofs.Holds.{both}
use Rattle.ed25519_curve.specs.Points.{base}
use Rattle.ed25519_scalar.specs.Order.{L}
use Rattle.ed25519_scalar.proofs.Steps.{L-pos}
use Rattle.ed25519_point.specs.Decoding.{decode_of}
use Rattle.ed25519.specs.Verification.{k_of, accepts, verifies, verifies_parts}
use Rattle.ed25519_group_laws.proofs.Decoded.{decoded-stands}
use Rattle.ed25519_group_laws.proofs.TimesL.{L-low}
use Rattle.ed25519_laws.specs.AffineEquation.{accepts_affine, verifies_affine}
use Rattle.ed25519_group_laws.proofs.Adding.{sum-stands}
use Rattle.ed25519_group_laws.proofs.Multiples.{base-stands, multiple-stands}
use Rattle.ed25519_group_laws.proofs.Equality.{equal_is}

-- what stands behind a test matters only where the test holds
behind : (t u v : Bool) → (t ≡ true → u ≡ v) → (t && u) ≡ (t && v)
behind true u v h = h refl
behind false u v h = refl

k-low : (R A M : List ℕ) → k_of R A M < 2 ^ 256
unfolding k_of
k-low R A M = lt_trans (mod-lt _ L-pos) L-low

accepts-affine : (A M R S : List ℕ) → accepts A M R S ≡ accepts_affine A M R S
accepts-affine A M R S =
    behind ((decode_of A).ok && (decode_of R).ok && ltb (le 32 S 0) L) _ _
    (λ h.
    let all = both ((decode_of A).ok && (decode_of R).ok) (ltb (le 32 S 0) L) h in
    let ok = both (decode_of A).ok (decode_of R).ok all.0 in
    let S-low = lt_trans (ltb-true (le 32 S 0) L all.1) L-low in
    equal_is _ _ _ _ (multiple-stands (le 32 S 0) base _ S-low base-stands)
    (sum-stands _ _ _ _ (decoded-stands R ok.1)
    (multiple-stands (k_of R A M) _ _ (k-low R A M) (decoded-stands A ok.0))))

-- The definition of ed25519 says what the affine one says, of any key, text and signature.
pub verifies-affine : (key text signature : List ℕ) → verifies key text signature ≡ verifies_affine key text signature
unfolding verifies verifies_affine
verifies-affine key text signature =
    ap (λ t. eqb (length key) 32 && eqb (length signature) 64 && t)
    (accepts-affine key text (take 32 signature) (drop 32 signature))

-- the same of a text in two parts
pub parts-affine : (key context value signature : List ℕ)
    → verifies_parts key context value signature
    ≡ (ltb (64 + (length context + length value)) (2 ^ 64) && verifies_affine key (context ++ value) signature)
unfolding verifies_parts
parts-affine key context value signature = rw verifies-affine
