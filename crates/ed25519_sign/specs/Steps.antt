-- What the steps of signing promise. For contracts of helpers.
use Rattle.std.specs.Prelude.{ℕ, ◌%◌, ◌^◌, ◌<◌, ◌≡◌, List, length}
use Rattle.laws.specs.Numbers.{le}
use Rattle.digits.specs.Digits.{value}
use Rattle.sha512.specs.Computation.{Sha512}
use Rattle.ed25519_field.specs.Limbs.{radix}
use Rattle.ed25519_field.specs.Residue.{Low}
use Rattle.ed25519_scalar.specs.Order.{L}
use Rattle.ed25519_sign.specs.declared.Secret.{Secret}
use Rattle.ed25519_sign.specs.declared.First.{First}
use Rattle.ed25519_sign.specs.Signing.{scalar_of, prefix_of, encoded_times}

-- e is what a seed is expanded to
pub record Expanded (seed : List ℕ) (e : Secret) : Type 0 where
  pub scalar_is : value 256 e.scalar ≡ scalar_of seed
  pub long : length e.scalar ≡ 32
  pub low : value 256 e.scalar < 2 ^ 255
  pub prefix-is : e.prefix ≡ prefix_of seed
  pub zero_is : e.zero ≡ 0

-- r is the digest of m modulo L
pub record Hashed (m r : List ℕ) : Type 0 where
  pub is : value radix r ≡ le 64 (Sha512 m) 0 % L
  pub low : Low r

-- f is r and R, where m is the prefix and the text
pub record Begun (m : List ℕ) (f : First) : Type 0 where
  pub number : Hashed m f.number
  pub string-is : f.string ≡ encoded_times (le 64 (Sha512 m) 0 % L)
