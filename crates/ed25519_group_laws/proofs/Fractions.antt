-- The numbers of `Associative`: each law over as few of them as it takes, since `omega` multiplies out only so much.
use Prim.Native.Nat.{ℕ, ◌+◌, ◌*◌}
use mathlib.Core.Path.{◌≡◌}
use native.Mathlib.Omega.{arith}
use Rattle.ed25519_curve.specs.Points.{d}
use Rattle.ed25519_group_laws.proofs.Modulo.{Same, back, ◌⊕◌, ◌⊙◌, ◌⊗◌, by}
use Rattle.ed25519_group_laws.proofs.Curve.{On}
use Rattle.ed25519_group_laws.proofs.Closed.{c}

-- q (x B + y A) = 2 s (y B + x A) - c (x B - y A), times k: A' is -A, e is k c, and t is 2 k s
pub turned : (x y A A' B k e t : ℕ) → On x y → Same (A + A') 0 → k * c (x * y) ≡ e → k * (2 * (x * y)) ≡ t
    → Same (k * (x * x + y * y) * (x * B + y * A) + e * (x * B + y * A')) (t * (y * B + x * A))
turned x y A A' B k e t on none ek tk =
    let once : Same ((x * x + y * y) * (x * B + y * A) + c (x * y) * (x * B + y * A')) (2 * (x * y) * (y * B + x * A)) =
    by ((B * x) ⊙ back on ⊕ (A * y) ⊙ on ⊕ (c (x * y) * y) ⊙ none) (omega arith) in
    rw (← ek, ← tk) (by (k ⊙ once) (omega arith))

-- (1 + k) (1 - k) (1 + d x y x3 y3) and the fraction above it, where x = A / (1 + k), y = B / (1 - k), and m = -1
module _ (x y x3 y3 k m A B : ℕ) (xs : Same (x * (1 + k)) A) (ys : Same (y * (1 + m * k)) B) where
  pub below-law : Same (m + 1) 0
      → Same ((1 + k) * (1 + m * k) * (1 + d * (x * x3 * (y * y3))) + k * k) (1 + d * (x3 * y3 * (A * B)))
  below-law minus = by ((d * (x3 * y3)) ⊙ (xs ⊗ ys) ⊕ (k + k * k) ⊙ minus) (omega arith)

  pub above-law : (l n : ℕ) → Same (n * l) (x * y3 + x3 * y)
      → Same (n * ((1 + k) * (1 + m * k) * l)) (x3 * B + y3 * A + k * (x3 * B + y3 * (m * A)))
  above-law l n ns =
      by (((1 + k) * (1 + m * k)) ⊙ ns ⊕ (y3 * (1 + m * k)) ⊙ xs ⊕ (x3 * (1 + k)) ⊙ ys) (omega arith)

-- u, v and w are U, V12 and V23 of `Associative`; l and r are what the two fractions have below
pub u-crossed : (u v w e1 e3 p1 p2 p3 f K M l r : ℕ) → Same (p3 * u + e3 * v) f → Same (p1 * u + e1 * w) f
    → Same (l + K) (1 + (p2 + p1)) → Same (r + M) (1 + (p2 + p3))
    → Same (u * r + u * M + e3 * v) (u * l + u * K + e1 * w)
u-crossed u v w e1 e3 p1 p2 p3 f K M l r u3 u1 ls rs =
    by (u3 ⊕ back u1 ⊕ u ⊙ rs ⊕ u ⊙ back ls) (omega arith)

pub v-crossed : (u v w e2 e3 p2 p3 t g h M r : ℕ) → Same (p3 * v + e3 * u) (t * g) → Same (p2 * v + e2 * w) (t * h)
    → Same (g + h) 0 → Same (r + M) (1 + (p2 + p3)) → Same (v * r + v * M + e3 * u + e2 * w) v
v-crossed u v w e2 e3 p2 p3 t g h M r v3 v2 none rs = by (v3 ⊕ v2 ⊕ t ⊙ none ⊕ v ⊙ rs) (omega arith)

pub crossed : (k12 k13 k23 u v w l r : ℕ)
    → Same (u * r + u * (k23 * k23) + (k12 + k13 * k23) * v) (u * l + u * (k12 * k12) + (k23 + k12 * k13) * w)
    → Same (v * r + v * (k23 * k23) + (k12 + k13 * k23) * u + (k13 + k12 * k23) * w) v
    → Same (w * l + w * (k12 * k12) + (k23 + k12 * k13) * u + (k13 + k12 * k23) * v) w
    → Same ((u + k12 * v) * r) ((u + k23 * w) * l)
crossed k12 k13 k23 u v w l r us vs ws = by (us ⊕ k12 ⊙ vs ⊕ k23 ⊙ back ws) (omega arith)

-- x = m / l and y = n / r are equal where m r = n l
pub quotients : (x y l r m n : ℕ) → Same (x * l) m → Same (y * r) n → Same (m * r) (n * l)
    → Same (x * (l * r)) (y * (l * r))
quotients x y l r m n xs ys across = by (r ⊙ xs ⊕ across ⊕ l ⊙ back ys) (omega arith)
