-- What is known of a signature that verifies: what its halves decode to are points, and the affine equation.
use Prim.Native.Nat.{ℕ, ◌<◌}
use mathlib.Core.Path.{◌≡◌, sym, ◌∙◌}
use mathlib.Core.Bool.{true, ◌&&◌}
use mathlib.Core.List.{List}
use borrow.Author.Tests.{eqb-true, ltb-true}
use lib.Dec.{eqb, ltb}
use lib.ListN.{length, take, drop}
use Rattle.laws.specs.Numbers.{le}
use Rattle.laws.proofs.Holds.{both}
use Rattle.ed25519_curve.specs.Points.{base}
use Rattle.ed25519_scalar.specs.Order.{L}
use Rattle.ed25519_point.specs.Decoding.{decode_of}
use Rattle.ed25519.specs.Verification.{k_of, verifies}
use Rattle.ed25519_group_laws.specs.Affine.{Affine, sum_of, times_of, point_of}
use Rattle.ed25519_laws.specs.AffineEquation.{accepts_affine, verifies_affine}
use Rattle.ed25519_group_laws.specs.Group.{Point}
use Rattle.ed25519_group_laws.proofs.Group.{sum-point}
use Rattle.ed25519_group_laws.proofs.Times.{times-point}
use Rattle.ed25519_group_laws.proofs.Multiples.{base-stands}
use Rattle.ed25519_group_laws.proofs.Equality.{same-exactly}
use Rattle.ed25519_group_laws.proofs.Decoded.{decoded-stands}
use Rattle.ed25519_laws.proofs.Verifying.{verifies-affine}

-- the point that 32 bytes decode to
abbrev pub of_bytes : List ℕ → Affine
of_bytes s = point_of (decode_of s).point

pub record Accepted (A M R S : List ℕ) : Type 0 where
  pub a-ok : (decode_of A).ok ≡ true
  pub r-ok : (decode_of R).ok ≡ true
  pub low : le 32 S 0 < L
  pub a : Point (of_bytes A)
  pub r : Point (of_bytes R)
  pub is : times_of (le 32 S 0) (point_of base) ≡ sum_of (of_bytes R) (times_of (k_of R A M) (of_bytes A))

pub accepted : (A M R S : List ℕ) → accepts_affine A M R S ≡ true → Accepted A M R S
accepted A M R S e =
    let all = both ((decode_of A).ok && (decode_of R).ok && ltb (le 32 S 0) L) _ e in
    let front = both ((decode_of A).ok && (decode_of R).ok) (ltb (le 32 S 0) L) all.0 in
    let ok = both (decode_of A).ok (decode_of R).ok front.0 in
    let a : Point (of_bytes A) = (decoded-stands A ok.0).point in
    let r : Point (of_bytes R) = (decoded-stands R ok.1).point in
    let right = sum-point (of_bytes R) _ r (times-point (k_of R A M) (of_bytes A) a) in
    record {
      a-ok = ok.0;
      r-ok = ok.1;
      low = ltb-true (le 32 S 0) L front.1;
      a = a;
      r = r;
      is = (same-exactly _ _ (times-point (le 32 S 0) _ base-stands.point) right).0 all.1;
    }

-- the signature has 64 bytes, and its halves are accepted
pub verified : (key text signature : List ℕ) → verifies key text signature ≡ true
    → (length signature ≡ 64) × Accepted key text (take 32 signature) (drop 32 signature)
unfolding verifies_affine
verified key text signature v =
    let all = both (eqb (length key) 32 && eqb (length signature) 64) _ (sym (verifies-affine key text signature) ∙ v) in
    (eqb-true (length signature) 64 (both (eqb (length key) 32) _ all.0).1, accepted key text _ _ all.1)
