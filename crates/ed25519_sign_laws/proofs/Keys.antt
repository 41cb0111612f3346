-- The encoding of [n]B, which a public key and the first half of a signature are: 32 bytes that decode to that point.
-- Of a public key it has the order L.
use Prim.Native.Nat.{ℕ, ◌*◌, ◌%◌}
use mathlib.Core.Path.{◌≡◌, refl, sym, ap, ◌∙◌}
use mathlib.Core.List.{List}
use mathlib.Core.Logic.{◌↔◌}
use native.Mathlib.Nat.{zero-mul, zero-mod}
use lib.ListN.{length}
use Rattle.laws.specs.Bytes.{Bytes}
use Rattle.laws.proofs.Numbers.{length-le_bytes}
use Rattle.digits.proofs.Mods.{mul-cong}
use Rattle.ed25519_curve.specs.Points.{base}
use Rattle.ed25519_scalar.specs.Order.{L}
use Rattle.ed25519_point.specs.Decoding.{Decoding}
use Rattle.ed25519_point.specs.Encoding.{encode_of}
use Rattle.ed25519_prime_laws.specs.Encodes.{Encodes}
use Rattle.ed25519_prime_laws.proofs.Euclid.{euclid}
use Rattle.ed25519_prime_laws.proofs.Exactly.{encoding-decodes}
use Rattle.ed25519_group_laws.specs.Affine.{Affine, zero_point, times_of, point_of}
use Rattle.ed25519_group_laws.specs.Group.{Point}
use Rattle.ed25519_group_laws.proofs.Times.{times-point, times-times}
use Rattle.ed25519_group_laws.proofs.Multiples.{base-stands}
use Rattle.ed25519_group_laws.proofs.PrimeOrder.{L-prime}
use Rattle.ed25519_group_laws.proofs.Order.{order-exactly}
use Rattle.ed25519_sign.specs.Signing.{scalar_of, encoded_times, public_of}
use Rattle.ed25519_sign_laws.specs.Signed.{PublicKey}
use Rattle.ed25519_sign_laws.proofs.Bytes.{bytes-number}
use Rattle.ed25519_sign_laws.proofs.Scalars.{secret-scalar, scalar-other}

-- [n]B, which is a point of the curve
abbrev pub multiple : ℕ → Affine
multiple n = times_of n (point_of base)

pub base-point : Point (point_of base)
base-point = base-stands.point

pub encoded-long : (n : ℕ) → length (encoded_times n) ≡ 32
unfolding encoded_times encode_of
encoded-long n = length-le_bytes 32 _

pub encoded-bytes : (n : ℕ) → Bytes (encoded_times n)
unfolding encoded_times encode_of
encoded-bytes n = bytes-number 32 _

pub encoded-encodes : (n : ℕ) → Encodes (encoded_times n) (multiple n).x (multiple n).y
unfolding encoded_times
encoded-encodes n =
    let on = times-point n (point_of base) base-point in
    record { x_below = on.x_below; y-below = on.y-below; on-curve = on.on-curve; is = refl }

-- [s]B has the order L, where s is no multiple of L
multiple-order : (s : ℕ) → (s % L ≡ 0 → ⊥) → (n : ℕ) → times_of n (multiple s) ≡ zero_point ↔ (n % L ≡ 0)
multiple-order s other n =
    let whole = times-times n s (point_of base) base-point in (
      λ e. euclid L s L-prime other n ((order-exactly (n * s)).0 (sym whole ∙ e)),
      λ e.
          let none : (n * s) % L ≡ (0 * s) % L = mul-cong L n s 0 s (e ∙ sym (zero-mod L)) refl in
          whole ∙ (order-exactly (n * s)).1 (none ∙ ap (λ (i : ℕ). i % L) (zero-mul s) ∙ zero-mod L),
    )

pub public-key : (seed : List ℕ) → PublicKey seed
unfolding public_of
public-key seed =
    let s = scalar_of seed in
    record {
      long = encoded-long s;
      bytes = encoded-bytes s;
      A = multiple s;
      A-is = encoded-encodes s;
      decodes = ap (λ (f : Decoding). f.ok) (encoding-decodes (encoded-encodes s));
      order = multiple-order s (scalar-other s (secret-scalar seed));
    }
