-- A signature verifies exactly where the sentence over points of the curve holds.
use Prim.Native.Nat.{ℕ}
use mathlib.Core.Path.{◌≡◌, refl, sym, ◌∙◌}
use mathlib.Core.Bool.{true, ◌&&◌}
use mathlib.Core.List.{List}
use mathlib.Core.Logic.{◌↔◌}
use native.Mathlib.Omega.{arith}
use borrow.Author.Tests.{eq-eqb, eqb-true, lt-ltb}
use lib.Dec.{eqb}
use lib.ListN.{length, take, drop}
use lib.Seq.{length-take-le}
use Rattle.laws.specs.Bytes.{Bytes}
use Rattle.laws.specs.Numbers.{le}
use Rattle.laws.proofs.Bytes.{bytes_take}
use Rattle.laws.proofs.Holds.{both}
use Rattle.ed25519_scalar.specs.Order.{L}
use Rattle.ed25519_point.specs.Decoding.{decode_of}
use Rattle.ed25519_point.proofs.OnCurve.{decoded}
use Rattle.ed25519_prime_laws.specs.Encodes.{Encodes}
use Rattle.ed25519_prime_laws.proofs.Exactly.{decodes-exactly, encoding-decodes}
use Rattle.ed25519.specs.Verification.{k_of, verifies}
use Rattle.ed25519_group_laws.specs.Affine.{Affine, sum_of, times_of, same_of}
use Rattle.ed25519_laws.specs.AffineEquation.{verifies_affine}
use Rattle.ed25519_laws.specs.Verifies.{Verifies}
use Rattle.ed25519_laws.proofs.Accepted.{of_bytes, accepted}
use Rattle.ed25519_laws.proofs.Verifying.{verifies-affine}

-- what decodes is the encoding of its point
encodes : (s : List ℕ) → Bytes s → length s ≡ 32 → (decode_of s).ok ≡ true → Encodes s (of_bytes s).x (of_bytes s).y
encodes s bytes long ok = ((decodes-exactly s bytes long).0 _ _).0 (rw (decoded s ok).is)

itself : (a : Affine) → same_of a a ≡ true
itself a = rw (eq-eqb a.x a.x refl, eq-eqb a.y a.y refl)

module _ (key text signature : List ℕ) where
  sound : Bytes key → Bytes signature → verifies key text signature ≡ true → Verifies key text signature
  unfolding verifies_affine
  sound key-bytes bytes v =
      let all =
      both (eqb (length key) 32 && eqb (length signature) 64) _ (sym (verifies-affine key text signature) ∙ v) in
      let longs = both (eqb (length key) 32) (eqb (length signature) 64) all.0 in
      let key-long : length key ≡ 32 = eqb-true _ _ longs.0 in
      let long : length signature ≡ 64 = eqb-true _ _ longs.1 in
      let h = accepted key text (take 32 signature) (drop 32 signature) all.1 in
      record {
        key-long = key-long;
        signature-long = long;
        A = of_bytes key;
        A-is = encodes key key-bytes key-long h.a-ok;
        R = of_bytes (take 32 signature);
        R-is =
            encodes (take 32 signature) (bytes_take signature bytes 32) (length-take-le 32 signature (omega arith))
            h.r-ok;
        S-below = h.low;
        equation = h.is;
      }

  complete : Verifies key text signature → verifies key text signature ≡ true
  unfolding verifies_affine
  complete t =
      verifies-affine key text signature
      ∙ rw (
        eq-eqb (length key) 32 t.key-long,
        eq-eqb (length signature) 64 t.signature-long,
        encoding-decodes t.A-is,
        encoding-decodes t.R-is,
        lt-ltb (le 32 (drop 32 signature) 0) L t.S-below,
        t.equation,
      )
      (itself (sum_of t.R (times_of (k_of (take 32 signature) key text) t.A)))

  pub verifies-exactly : Bytes key → Bytes signature → verifies key text signature ≡ true ↔ Verifies key text signature
  verifies-exactly key-bytes bytes = (sound key-bytes bytes, complete)
