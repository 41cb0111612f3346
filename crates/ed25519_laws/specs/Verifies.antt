-- RFC 8032, 5.1.7, as a sentence over points (x, y): no root is taken and no other coordinates are used. `verifies` of
-- ed25519 is proved to hold, of bytes, exactly where it does.
use Rattle.std.specs.Prelude.{ℕ, ◌<◌, ◌≡◌, List, length, take, drop}
use Rattle.laws.specs.Numbers.{le}
use Rattle.ed25519_curve.specs.Points.{base}
use Rattle.ed25519_scalar.specs.Order.{L}
use Rattle.ed25519_prime_laws.specs.Encodes.{Encodes}
use Rattle.ed25519.specs.Verification.{k_of}
use Rattle.ed25519_group_laws.specs.Affine.{Affine, sum_of, times_of, point_of}

pub record Verifies (key text signature : List ℕ) : Type 0 where
  -- 32 bytes and 64 bytes
  pub key-long : length key ≡ 32
  pub signature-long : length signature ≡ 64
  -- the key is the encoding of a point A of the curve, and the first half of the signature that of a point R
  pub A : Affine
  pub A-is : Encodes key A.x A.y
  pub R : Affine
  pub R-is : Encodes (take 32 signature) R.x R.y
  -- S, the second half, is below L
  pub S-below : le 32 (drop 32 signature) 0 < L
  -- [S]B = R + [k]A, without the cofactor; k is the digest modulo L (section 6)
  pub equation :
      times_of (le 32 (drop 32 signature) 0) (point_of base)
      ≡ sum_of R (times_of (k_of (take 32 signature) key text) A)
