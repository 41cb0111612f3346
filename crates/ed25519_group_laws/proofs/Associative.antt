-- The affine law is associative. With s = x y, q = x^2 + y^2, c = 1 + d s^2 of each of three points, k12 = d s1 s2 and
-- so on, A = x1 y2 + x2 y1, B = y1 y2 + x1 x2, U = x3 B + y3 A, in which the points may change places, and
-- V12 = x3 B - y3 A:
--   x of (P1 + P2) + P3 is (U + k12 V12) / (1 - k12^2 + k13 q2 + k23 q1),
-- and x of P1 + (P2 + P3) is the same with P1 and P3 changed. On the curve q3 U = 2 s3 (y3 B + x3 A) - c3 V12 and so on
-- (`turned`), and with c = 1 + d s^2 the two fractions are equal. Where i^2 = -1, the map of (x, y) to (i y, i x)
-- changes the x and y of a sum, so that y follows from x.
use Prim.Native.Nat.{ℕ, ◌+◌, ◌*◌, ◌%◌}
use mathlib.Core.Path.{◌≡◌, refl}
use native.Mathlib.Omega.{arith}
use Rattle.ed25519_field.specs.Field.{p}
use Rattle.ed25519_curve.specs.Points.{d}
use Rattle.ed25519_point.specs.Decoding.{sqrt_m1}
use Rattle.ed25519_prime_laws.proofs.Squares.{times-other}
use Rattle.ed25519_group_laws.specs.Affine.{Affine}
use Rattle.ed25519_group_laws.proofs.Modulo.{Same, same, back, ◌⨾◌, ◌⊕◌, ◌⊙◌, by}
use Rattle.ed25519_group_laws.proofs.Division.{divide}
use Rattle.ed25519_group_laws.proofs.Curve.{On}
use Rattle.ed25519_group_laws.proofs.Denominators.{minus_one, plus-other, less_other}
use Rattle.ed25519_group_laws.proofs.Closed.{c, closed}
use Rattle.ed25519_group_laws.proofs.Sums.{k}
use Rattle.ed25519_group_laws.proofs.Fractions.{turned, below-law, above-law, u-crossed, v-crossed, crossed, quotients}

abbrev pub Lies : Affine → Type 0
Lies a = On a.x a.y

abbrev A : Affine → Affine → ℕ
A a b = a.x * b.y + b.x * a.y

abbrev B : Affine → Affine → ℕ
B a b = a.y * b.y + a.x * b.x

abbrev s : Affine → ℕ
s a = a.x * a.y

abbrev q : Affine → ℕ
q a = a.x * a.x + a.y * a.y

-- e is the sum of a and b, with nothing divided
pub record Adds (a b e : Affine) : Type 0 where
  pub x : Same (e.x * (1 + k a b)) (A a b)
  pub y : Same e.y (e.y * k a b + B a b)

pub other_way : (a b e : Affine) → Adds a b e → Adds b a e
other_way a b e sum = record { x = by sum.x (omega arith); y = by sum.y (omega arith) }

module _ (m : ℕ) (minus : Same (m + 1) 0) where
  negative : (n : ℕ) → Same (n + m * n) 0
  negative n = by (n ⊙ minus) (omega arith)

  one_less : (a b : Affine) → Same (1 + m * k a b + k a b) 1
  one_less a b = by (negative (k a b)) (omega arith)

  y-is : (a b e : Affine) → Adds a b e → Same (e.y * (1 + m * k a b)) (B a b)
  y-is a b e sum = by (sum.y ⊕ (e.y * k a b) ⊙ minus) (omega arith)

  lies : (a b e : Affine) → Lies a → Lies b → Adds a b e → Lies e
  lies a b e on-a on-b sum =
      closed a.x a.y b.x b.y (1 + m * k a b) e.x e.y on-a on-b (one_less a b) sum.x
      (y-is a b e sum)

  module _ (a b e : Affine) where
    -- U, V12, V23, and y3 B - x3 A
    abbrev u : ℕ
    u = e.x * B a b + e.y * A a b

    abbrev v : ℕ
    v = e.x * B a b + e.y * (m * A a b)

    abbrev w : ℕ
    w = a.x * B e b + a.y * (m * A e b)

    abbrev g : ℕ
    g = e.y * B a b + e.x * (m * A a b)

    -- V12 and V23 from the second point: b.x times B' and b.y times A' or -A'
    abbrev B' : ℕ
    B' = a.x * e.x + m * (a.y * e.y)

    abbrev A' : ℕ
    A' = a.y * e.x + m * (a.x * e.y)

    abbrev A'' : ℕ
    A'' = m * (a.y * e.x) + a.x * e.y

    v-is : v ≡ b.x * B' + b.y * A'
    v-is = omega arith

    w-is : w ≡ b.x * B' + b.y * A''
    w-is = omega arith

    A'-none : Same (A' + A'') 0
    A'-none = by ((a.y * e.x + a.x * e.y) ⊙ minus) (omega arith)

    g-none : Same (g + (b.y * B' + b.x * A')) 0
    g-none = by ((e.y * B a b + e.x * A a b) ⊙ minus) (omega arith)

    v-law : (k12 k13 e2 e3 t M r : ℕ) → Lies b → Lies e → k12 * c (s e) ≡ e3 → k12 * (2 * s e) ≡ t
        → k13 * c (s b) ≡ e2 → k13 * (2 * s b) ≡ t → Same (r + M) (1 + (k13 * q b + k12 * q e))
        → Same (v * r + v * M + e3 * u + e2 * w) v
    v-law k12 k13 e2 e3 t M r on-b on-e ce te cb tb below =
        v-crossed u v w e2 e3 (k13 * q b) (k12 * q e) t g (b.y * B' + b.x * A') M r
        (turned e.x e.y (m * A a b) (A a b) (B a b) k12 e3 t on-e (by (negative (A a b)) (omega arith)) ce te)
        (rw (v-is, w-is) (turned b.x b.y A' A'' B' k13 e2 t on-b A'-none cb tb)) g-none below

    -- x of (a + b) + e is (U + k12 V12) / below
    abbrev below : Affine → ℕ
    below ab = (1 + k a b) * (1 + m * k a b) * (1 + k ab e)

    below-is : (ab : Affine) → Adds a b ab → Same (below ab + k a b * k a b) (1 + d * (s e * (A a b * B a b)))
    below-is ab sum =
        below-law ab.x ab.y e.x e.y (k a b) m (A a b) (B a b) sum.x (y-is a b ab sum) minus

    above-is : (ab l : Affine) → Adds a b ab → Adds ab e l → Same (l.x * below ab) (u + k a b * v)
    above-is ab l sum total =
        above-law ab.x ab.y e.x e.y (k a b) m (A a b) (B a b) sum.x (y-is a b ab sum) (1 + k ab e) l.x
        total.x

    below_other : (ab : Affine) → Lies a → Lies b → Lies e → Adds a b ab → below ab % p ≡ 0 → ⊥
    below_other ab on-a on-b on-e sum =
        times-other ((1 + k a b) * (1 + m * k a b)) (1 + k ab e)
        (times-other (1 + k a b) (1 + m * k a b) (plus-other a.x a.y b.x b.y on-a on-b)
        (less_other a.x a.y b.x b.y (1 + m * k a b) on-a on-b (one_less a b)))
        (plus-other ab.x ab.y e.x e.y (lies a b ab on-a on-b sum) on-e)

  module _ (a b e ab be l r : Affine) (on-a : Lies a) (on-b : Lies b) (on-e : Lies e) (sum-ab : Adds a b ab)
      (sum-be : Adds b e be) (sum-l : Adds ab e l) (sum_r : Adds a be r) where
    abbrev k12 : ℕ
    k12 = k a b

    abbrev k13 : ℕ
    k13 = k a e

    abbrev k23 : ℕ
    k23 = k e b

    abbrev t : ℕ
    t = k12 * (2 * s e)

    -- k c of each point, in which 1 + d s^2 is put in; and k s, which is the same of all three
    c1 : k23 * c (s a) ≡ k23 + k12 * k13
    c1 = omega arith

    c2 : k13 * c (s b) ≡ k13 + k12 * k23
    c2 = omega arith

    c3 : k12 * c (s e) ≡ k12 + k13 * k23
    c3 = omega arith

    t1 : k23 * (2 * s a) ≡ t
    t1 = omega arith

    t2 : k13 * (2 * s b) ≡ t
    t2 = omega arith

    -- U and y3 B + x3 A with the first point and the third changed
    u-is : u a b e ≡ u e b a
    u-is = omega arith

    f-is : e.y * B a b + e.x * A a b ≡ a.y * B e b + a.x * A e b
    f-is = omega arith

    be-other : Adds e b be
    be-other = other_way b e be sum-be

    l-below : Same (below a b e ab + k12 * k12) (1 + (k13 * q b + k23 * q a))
    l-below = below-is a b e ab sum-ab ⨾ same (omega arith)

    r-below : Same (below e b a be + k23 * k23) (1 + (k13 * q b + k12 * q e))
    r-below = below-is e b a be be-other ⨾ same (omega arith)

    across : Same ((u a b e + k12 * v a b e) * below e b a be) ((u a b e + k23 * w a b e) * below a b e ab)
    across =
        crossed k12 k13 k23 (u a b e) (v a b e) (w a b e) (below a b e ab) (below e b a be)
        (u-crossed (u a b e) (v a b e) (w a b e) (k23 + k12 * k13) (k12 + k13 * k23) (k23 * q a) (k13 * q b) (k12 * q e)
        (t * (e.y * B a b + e.x * A a b)) (k12 * k12) (k23 * k23) (below a b e ab) (below e b a be)
        (turned e.x e.y (A a b) (m * A a b) (B a b) k12 _ t on-e (negative (A a b)) c3 refl)
        (rw (u-is, f-is) (turned a.x a.y (A e b) (m * A e b) (B e b) k23 _ t on-a (negative (A e b)) c1 t1))
        l-below r-below)
        (v-law a b e k12 k13 _ _ t (k23 * k23) (below e b a be) on-b on-e c3 refl c2 t2 r-below)
        (rw u-is (v-law e b a k23 k13 _ _ t (k12 * k12) (below a b e ab) on-b on-a c1 t1 c2 t2 l-below))

    x-same : Same l.x r.x
    x-same =
        divide (below a b e ab * below e b a be)
        (times-other _ _ (below_other a b e ab on-a on-b on-e sum-ab) (below_other e b a be on-e on-b on-a be-other))
        (quotients l.x r.x _ _ _ _ (above-is a b e ab l sum-ab sum-l)
        (rw u-is (above-is e b a be r be-other (other_way a be r sum_r))) across)

-- (i y, i x)
module _ (i : ℕ) (root : Same (i * i + 1) 0) where
  changed : Affine → Affine
  changed a = record { x = i * a.y; y = i * a.x }

  changed-lies : (a : Affine) → Lies a → Lies (changed a)
  unfolding changed
  changed-lies a on =
      let n : ℕ = d * (a.x * a.x * (a.y * a.y)) in
      by (on ⊕ (a.x * a.x + n) ⊙ root ⊕ (a.y * a.y + n * (i * i)) ⊙ back root) (omega arith)

  changed-sum : (a b e : Affine) → Adds a b e → Adds a (changed b) (changed e)
  unfolding changed
  changed-sum a b e sum = record {
    x = by (i ⊙ sum.y ⊕ (i * e.y * k a b) ⊙ root) (omega arith);
    y = by (i ⊙ sum.x ⊕ (i * e.x * k a b) ⊙ back root) (omega arith);
  }

  without : (m n : ℕ) → Same (i * m) (i * n) → Same m n
  without m n e = by (m ⊙ root ⊕ i ⊙ back e ⊕ n ⊙ back root) (omega arith)

  associated : (a b e ab be l r : Affine) → Lies a → Lies b → Lies e → Adds a b ab → Adds b e be → Adds ab e l
      → Adds a be r → Same l.x r.x × Same l.y r.y
  unfolding changed
  associated a b e ab be l r on-a on-b on-e sum-ab sum-be sum-l sum_r = (
    x-same (i * i) root a b e ab be l r on-a on-b on-e sum-ab sum-be sum-l sum_r,
    without l.y r.y
        (x-same (i * i) root a b (changed e) ab (changed be) (changed l) (changed r) on-a on-b (changed-lies e on-e) sum-ab
        (changed-sum b e be sum-be) (changed-sum ab e l sum-l) (changed-sum a be r sum_r)),
  )

pub associative : (a b e ab be l r : Affine) → Lies a → Lies b → Lies e → Adds a b ab → Adds b e be → Adds ab e l
    → Adds a be r → Same l.x r.x × Same l.y r.y
associative = associated sqrt_m1 minus_one
