-- The library's lower case is that of the definitions.
use Prim.Native.Nat.{ℕ, ◌+◌, ◌≤◌, ◌<◌}
use mathlib.Core.Path.{◌≡◌, refl}
use mathlib.Core.Bool.{cond, ◌&&◌}
use mathlib.Core.Logic.{◌⊎◌, inl, inr}
use native.Mathlib.Omega.{arith}
use borrow.Author.Tests.{lt-ltb, le-ltb, le-leb, lt-leb}
use lib.Dec.{leb}
use Rattle.std.specs.Char.{to_ascii_lowercase}
use Rattle.std.proofs.lemmas.Bool.{cases_lt}
use Rattle.laws.specs.Pick.{pick, both}
use Rattle.list_address.specs.Https.{lower}

pub lower_of : (b : ℕ) → to_ascii_lowercase b ≡ lower b
unfolding lower pick both
lower_of b = by (cases_lt b 65) (cases_lt b 91)
  where
    by : (b < 65 ⊎ 65 ≤ b) → (b < 91 ⊎ 91 ≤ b) → to_ascii_lowercase b ≡ cond (leb 65 b && leb b 90) (b + 32) b
    by (inl h) e = rw (lt-ltb b 65 h, lt-leb 65 b h) refl
    by (inr h) (inl e) = rw (le-ltb b 65 h, lt-ltb b 91 e, le-leb 65 b h, le-leb b 90 (omega arith)) refl
    by (inr h) (inr e) = rw (le-ltb b 65 h, le-ltb b 91 e, le-leb 65 b h, lt-leb b 90 (omega arith)) refl
