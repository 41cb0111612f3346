-- RFC 8032, 5.1.7, over points (x, y): with section 3's sum and multiples by it. For theorems alone: `verifies` of
-- ed25519 says the same in other coordinates.
use Rattle.std.specs.Prelude.{ℕ, ◌≡◌, Bool, ◌&&◌, List, eqb, ltb, length, take, drop}
use Rattle.laws.specs.Numbers.{le}
use Rattle.ed25519_curve.specs.Points.{base}
use Rattle.ed25519_scalar.specs.Order.{L}
use Rattle.ed25519_point.specs.Decoding.{decode_of}
use Rattle.ed25519_group_laws.specs.Affine.{Affine, sum_of, times_of, same_of, point_of}
use Rattle.ed25519.specs.Verification.{k_of}

-- 5.1.7, step 3: "[S]B = R + [k]A'"
abbrev pub equation_of : Affine → Affine → ℕ → ℕ → Bool
equation_of A R S k = same_of (times_of S (point_of base)) (sum_of R (times_of k A))

-- step 3 has it as "[8][S]B = [8]R + [8][k]A'", for which the equation above is "sufficient, but not required"
abbrev pub EightfoldOf : Affine → Affine → ℕ → ℕ → Type 0
EightfoldOf A R S k = times_of 8 (times_of S (point_of base)) ≡ sum_of (times_of 8 R) (times_of 8 (times_of k A))

-- step 1: R, S and A' are decoded, with S below L; and the whole, as `accepts` and `verifies` of ed25519 have them
abbrev pub accepts_affine : List ℕ → List ℕ → List ℕ → List ℕ → Bool
accepts_affine A M R S =
    (decode_of A).ok && (decode_of R).ok && ltb (le 32 S 0) L
    && equation_of (point_of (decode_of A).point) (point_of (decode_of R).point) (le 32 S 0) (k_of R A M)

unfoldable pub verifies_affine : List ℕ → List ℕ → List ℕ → Bool
verifies_affine key text signature =
    eqb (length key) 32 && eqb (length signature) 64
    && accepts_affine key text (take 32 signature) (drop 32 signature)
