-- A sum of two points of the curve is on the curve. With s = x y, q = x^2 + y^2 and c = 1 + d s^2 of each of the two,
-- and k = d s1 s2, A = x1 y2 + x2 y1, B = y1 y2 + x1 x2:
--   q^2 = 4 s^2 + c^2,  B^2 = A^2 + c1 c2,  A^2 + B^2 = q1 q2 + 4 s1 s2,  A B = s1 q2 + s2 q1.
-- The equation of x3 = A / (1 + k) and y3 = B / (1 - k), times (1 + k)^2 (1 - k)^2, follows from these.
use Prim.Native.Nat.{ℕ, ◌+◌, ◌*◌, ◌%◌}
use mathlib.Core.Path.{◌≡◌}
use native.Mathlib.Omega.{arith}
use Rattle.ed25519_field.specs.Field.{p}
use Rattle.ed25519_curve.specs.Points.{d}
use Rattle.ed25519_prime_laws.proofs.Squares.{times-other}
use Rattle.ed25519_group_laws.proofs.Modulo.{Same, back, ◌⊕◌, ◌⊙◌, ◌⊗◌, by}
use Rattle.ed25519_group_laws.proofs.Division.{divide}
use Rattle.ed25519_group_laws.proofs.Curve.{On, cross}
use Rattle.ed25519_group_laws.proofs.Denominators.{plus-other, less_other}

-- 1 + d s^2
abbrev pub c : ℕ → ℕ
c s = 1 + d * (s * s)

-- q^2 = 4 s^2 + c^2
squared : (x y : ℕ) → On x y
    → Same ((x * x + y * y) * (x * x + y * y)) (4 * (x * y * (x * y)) + c (x * y) * c (x * y))
squared x y on = by ((y * y + c (x * y)) ⊙ on ⊕ (x * x) ⊙ back on) (omega arith)

-- B^2 = A^2 + c1 c2
apart : (x1 y1 x2 y2 : ℕ) → On x1 y1 → On x2 y2
    → Same ((y1 * y2 + x1 * x2) * (y1 * y2 + x1 * x2))
    ((x1 * y2 + x2 * y1) * (x1 * y2 + x2 * y1) + c (x1 * y1) * c (x2 * y2))
apart x1 y1 x2 y2 on1 on2 =
    by ((y2 * y2) ⊙ on1 ⊕ (x2 * x2) ⊙ back on1 ⊕ c (x1 * y1) ⊙ on2) (omega arith)

-- n = 1 - k: n^2 = 1 - 2 k + k^2, and (1 + k) n = 1 - k^2
minus-squared : (n k : ℕ) → Same (n + k) 1 → Same (n * n + 2 * k) (1 + k * k)
minus-squared n k minus = by ((n + 1) ⊙ minus ⊕ k ⊙ back minus) (omega arith)

minus-product : (n k : ℕ) → Same (n + k) 1 → Same ((1 + k) * n + k * k) 1
minus-product n k minus = by ((1 + k) ⊙ minus) (omega arith)

-- c1 c2 (1 + k^2) + 2 k (A^2 + B^2) = (1 - k^2)^2 + d A^2 B^2
middle : (s1 s2 q1 q2 k sum prod : ℕ) → Same (q1 * q1) (4 * (s1 * s1) + c s1 * c s1)
    → Same (q2 * q2) (4 * (s2 * s2) + c s2 * c s2)
    → k ≡ d * (s1 * s2) → sum ≡ q1 * q2 + 4 * (s1 * s2) → prod ≡ s1 * q2 + s2 * q1
    → Same (c s1 * c s2 * (1 + k * k) + (2 * k * sum + 2 * (k * k))) (1 + k * k * (k * k) + d * (prod * prod))
middle s1 s2 q1 q2 k sum prod h1 h2 e f g =
    rw (e, f, g) (by ((d * (s1 * s1)) ⊙ back h2 ⊕ (d * (s2 * s2)) ⊙ back h1) (omega arith))

-- B^2 (1 + k)^2 = A^2 (1 - k)^2 + (1 - k^2)^2 + d A^2 B^2, where m is 1 - k^2
multiplied : (A B n m k cc : ℕ) → Same (B * B) (A * A + cc)
    → Same (n * n + 2 * k) (1 + k * k) → Same (m * m + 2 * (k * k)) (1 + k * k * (k * k))
    → Same (cc * (1 + k * k) + (2 * k * (A * A + B * B) + 2 * (k * k))) (1 + k * k * (k * k) + d * (A * B * (A * B)))
    → Same (B * B * ((1 + k) * (1 + k))) (A * A * (n * n) + (m * m + d * (A * B * (A * B))))
multiplied A B n m k cc f nn mm e =
    by ((1 + k * k) ⊙ f ⊕ e ⊕ (A * A) ⊙ back nn ⊕ back mm) (omega arith)

-- the same with x = A / l and y = B / n put in
put_in : (x y A B l n : ℕ) → Same (x * l) A → Same (y * n) B
    → Same (B * B * (l * l)) (A * A * (n * n) + (l * n * (l * n) + d * (A * B * (A * B))))
    → Same (y * y * (l * n * (l * n))) ((x * x + (1 + d * (x * x * (y * y)))) * (l * n * (l * n)))
put_in x y A B l n ex ey e =
    let xy = ex ⊗ ey in
    by ((l * l) ⊙ (ey ⊗ ey) ⊕ e ⊕ (n * n) ⊙ back (ex ⊗ ex) ⊕ d ⊙ back (xy ⊗ xy)) (omega arith)

module _ (x1 y1 x2 y2 n : ℕ) (on1 : On x1 y1) (on2 : On x2 y2) where
  abbrev k : ℕ
  k = cross x1 y1 x2 y2

  abbrev A : ℕ
  A = x1 * y2 + x2 * y1

  abbrev B : ℕ
  B = y1 * y2 + x1 * x2

  sum-on : Same (n + k) 1
      → Same (B * B * ((1 + k) * (1 + k))) (A * A * (n * n) + ((1 + k) * n * ((1 + k) * n) + d * (A * B * (A * B))))
  sum-on minus =
      multiplied A B n ((1 + k) * n) k (c (x1 * y1) * c (x2 * y2)) (apart x1 y1 x2 y2 on1 on2) (minus-squared n k minus)
      (minus-squared ((1 + k) * n) (k * k) (minus-product n k minus))
      (middle (x1 * y1) (x2 * y2) (x1 * x1 + y1 * y1) (x2 * x2 + y2 * y2) k (A * A + B * B) (A * B) (squared x1 y1 on1)
      (squared x2 y2 on2) (omega arith) (omega arith) (omega arith))

-- x3 = A / (1 + k) and y3 = B / n, where n = 1 - k
pub closed : (x1 y1 x2 y2 n x3 y3 : ℕ) → On x1 y1 → On x2 y2 → Same (n + cross x1 y1 x2 y2) 1
    → Same (x3 * (1 + cross x1 y1 x2 y2)) (x1 * y2 + x2 * y1) → Same (y3 * n) (y1 * y2 + x1 * x2) → On x3 y3
closed x1 y1 x2 y2 n x3 y3 on1 on2 minus ex ey =
    let l : ℕ = 1 + cross x1 y1 x2 y2 in
    let other : (l * n) % p ≡ 0 → ⊥ =
    times-other l n (plus-other x1 y1 x2 y2 on1 on2) (less_other x1 y1 x2 y2 n on1 on2 minus) in
    divide (l * n * (l * n)) (times-other (l * n) (l * n) other other)
    (put_in x3 y3 (x1 * y2 + x2 * y1) (y1 * y2 + x1 * x2) l n ex ey (sum-on x1 y1 x2 y2 n on1 on2 minus))
