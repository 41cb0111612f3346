-- What is signed verifies: [S]B is R + [k]A, since S is r + k s modulo L, the order of B, R is [r]B and A is [s]B.
use Prim.Native.Nat.{ℕ, ◌+◌, ◌*◌, ◌%◌, ◌^◌, ◌<◌}
use mathlib.Core.Path.{◌≡◌, sym, ap, ◌∙◌}
use mathlib.Core.Bool.{true}
use mathlib.Core.List.{List}
use native.Mathlib.Nat.{mod-lt, mod-mod, lt_trans}
use native.Mathlib.Omega.{arith}
use lib.ListN.{length, take, drop, length-append}
use lib.Seq.{take_at, drop_at}
use Rattle.laws.specs.Bytes.{Bytes}
use Rattle.laws.specs.Numbers.{le, le_bytes}
use Rattle.laws.proofs.Numbers.{length-le_bytes, le-written}
use Rattle.ed25519_curve.specs.Points.{base}
use Rattle.ed25519_scalar.specs.Order.{L}
use Rattle.ed25519_scalar.proofs.Steps.{L-pos}
use Rattle.ed25519_group_laws.specs.Affine.{sum_of, times_of, point_of}
use Rattle.ed25519_group_laws.proofs.Times.{times-add, times-times}
use Rattle.ed25519_group_laws.proofs.TimesL.{L-low}
use Rattle.ed25519_group_laws.proofs.Order.{times-exactly}
use Rattle.ed25519.specs.Verification.{k_of, verifies}
use Rattle.ed25519_laws.specs.Verifies.{Verifies}
use Rattle.ed25519_laws.proofs.Exactly.{verifies-exactly}
use Rattle.ed25519_sign.specs.Signing.{scalar_of, public_of, r_of, first_half, number_s, signature_of}
use Rattle.ed25519_sign_laws.specs.Signed.{Signed}
use Rattle.ed25519_sign_laws.proofs.Bytes.{bytes-append, bytes-number}
use Rattle.ed25519_sign_laws.proofs.Keys.{multiple, base-point, encoded-long, encoded-bytes, encoded-encodes}
use Rattle.ed25519_sign_laws.proofs.Keys.{public-key}

-- [(r + k s) mod L]B = [r]B + [k]([s]B)
equation : (r k s : ℕ) → multiple ((r + k * s) % L) ≡ sum_of (multiple r) (times_of k (multiple s))
equation r k s =
    (times-exactly ((r + k * s) % L) (r + k * s)).1 (mod-mod (r + k * s) L)
    ∙ times-add r (k * s) (point_of base) base-point
    ∙ ap (sum_of (multiple r)) (sym (times-times k s (point_of base) base-point))

module _ (seed text : List ℕ) where
  abbrev R : List ℕ
  R = first_half seed text

  abbrev S : ℕ
  S = number_s seed text

  abbrev k : ℕ
  k = k_of R (public_of seed) text

  -- ---- the halves

  R-long : length R ≡ 32
  unfolding first_half
  R-long = encoded-long (r_of seed text)

  R-bytes : Bytes R
  unfolding first_half
  R-bytes = encoded-bytes (r_of seed text)

  S-low : S < L
  unfolding number_s
  S-low = mod-lt _ L-pos

  first-is : take 32 (signature_of seed text) ≡ R
  unfolding signature_of
  first-is = take_at R (le_bytes 32 S) 32 R-long

  second_is : drop 32 (signature_of seed text) ≡ le_bytes 32 S
  unfolding signature_of
  second_is = drop_at R (le_bytes 32 S) 32 R-long

  -- S, as it is read
  S-is : le 32 (drop 32 (signature_of seed text)) 0 ≡ S
  S-is =
      let room : S < 256 ^ 32 = lt_trans S-low L-low in
      rw second_is (le-written 32 S room)

  -- ---- the whole

  pub signature-long : length (signature_of seed text) ≡ 64
  unfolding signature_of
  signature-long = omega (arith, length-append R (le_bytes 32 S), R-long, length-le_bytes 32 S)

  pub signature-bytes : Bytes (signature_of seed text)
  unfolding signature_of
  signature-bytes = bytes-append R (le_bytes 32 S) R-bytes (bytes-number 32 S)

  S-read : le 32 (drop 32 (signature_of seed text)) 0 < L
  S-read = rw S-is S-low

  signed-equation : multiple S ≡ sum_of (multiple (r_of seed text)) (times_of k (multiple (scalar_of seed)))
  unfolding number_s
  signed-equation = equation (r_of seed text) k (scalar_of seed)

  sentence : Verifies (public_of seed) text (signature_of seed text)
  unfolding first_half public_of
  sentence =
      record {
        key-long = (public-key seed).long;
        signature-long = signature-long;
        A = multiple (scalar_of seed);
        A-is = encoded-encodes (scalar_of seed);
        R = multiple (r_of seed text);
        R-is = rw first-is (encoded-encodes (r_of seed text));
        S-below = S-read;
        equation = rw (S-is, first-is) signed-equation;
      }

  pub signed-verifies : verifies (public_of seed) text (signature_of seed text) ≡ true
  signed-verifies =
      (verifies-exactly (public_of seed) text (signature_of seed text) (public-key seed).bytes signature-bytes).1 sentence

  pub signed : Signed seed text
  signed =
      record { long = signature-long; bytes = signature-bytes; S-below = S-read; verified = signed-verifies }
