-- Multiples: [n]P is P added to itself n times, and by the group's laws the additions may be made in any order.
use Prim.Native.Nat.{ℕ, zero, suc, ◌+◌, ◌*◌}
use mathlib.Core.Path.{◌≡◌, refl, sym, ap, ◌∙◌}
use native.Mathlib.Omega.{arith}
use Rattle.ed25519_group_laws.specs.Affine.{Affine, sum_of, zero_point, times_of}
use Rattle.ed25519_group_laws.specs.Group.{Point}
use Rattle.ed25519_group_laws.proofs.Group.{zero-point, sum-point, sum-zero, zero-sum, sum-commutes, sum-associates}

pub times_zero : (a : Affine) → times_of 0 a ≡ zero_point
unfolding times_of
times_zero a = refl

pub times-next : (n : ℕ) (a : Affine) → times_of (suc n) a ≡ sum_of a (times_of n a)
unfolding times_of
times-next n a = refl

pub times-point : (n : ℕ) (a : Affine) → Point a → Point (times_of n a)
times-point zero a pa = rw (times_zero a) zero-point
times-point (suc n) a pa = rw (times-next n a) (sum-point a (times_of n a) pa (times-point n a pa))

counted : (m n : ℕ) (a : Affine) → m ≡ n → times_of m a ≡ times_of n a
counted m n a e = ap (λ i. times_of i a) e

-- [m + n]P = [m]P + [n]P
pub times-add : (m n : ℕ) (a : Affine) → Point a → times_of (m + n) a ≡ sum_of (times_of m a) (times_of n a)
unfolding times_of
times-add zero n a pa = counted (0 + n) n a (omega arith) ∙ sym (zero-sum (times_of n a) (times-point n a pa))
times-add (suc m) n a pa =
    counted (suc m + n) (suc (m + n)) a (omega arith) ∙ ap (sum_of a) (times-add m n a pa)
    ∙ sym (sum-associates a (times_of m a) (times_of n a) pa (times-point m a pa) (times-point n a pa))

-- [m]([n]P) = [m n]P
pub times-times : (m n : ℕ) (a : Affine) → Point a → times_of m (times_of n a) ≡ times_of (m * n) a
unfolding times_of
times-times zero n a pa = counted 0 (0 * n) a (omega arith)
times-times (suc m) n a pa =
    ap (sum_of (times_of n a)) (times-times m n a pa) ∙ sym (times-add n (m * n) a pa)
    ∙ counted (n + m * n) (suc m * n) a (omega arith)

-- [n](P + P) = [2 n]P
pub times-double : (n : ℕ) (a : Affine) → Point a → times_of n (sum_of a a) ≡ times_of (n * 2) a
unfolding times_of
times-double n a pa = ap (λ b. times_of n (sum_of a b)) (sym (sum-zero a pa)) ∙ times-times n 2 a pa

-- (P + Q) + (R + S) = (P + R) + (Q + S)
pub crossed : (a b e f : Affine) → Point a → Point b → Point e → Point f
    → sum_of (sum_of a b) (sum_of e f) ≡ sum_of (sum_of a e) (sum_of b f)
crossed a b e f pa pb pe pf =
    sum-associates a b (sum_of e f) pa pb (sum-point e f pe pf)
    ∙ ap (sum_of a) (sym (sum-associates b e f pb pe pf) ∙ ap (λ g. sum_of g f) (sum-commutes b e pb pe)
    ∙ sum-associates e b f pe pb pf)
    ∙ sym (sum-associates a e (sum_of b f) pa pe (sum-point b f pb pf))

-- [n](P + Q) = [n]P + [n]Q
pub times-sum : (n : ℕ) (a b : Affine) → Point a → Point b
    → times_of n (sum_of a b) ≡ sum_of (times_of n a) (times_of n b)
unfolding times_of
times-sum zero a b pa pb = sym (sum-zero zero_point zero-point)
times-sum (suc n) a b pa pb =
    ap (sum_of (sum_of a b)) (times-sum n a b pa pb)
    ∙ crossed a b (times_of n a) (times_of n b) pa pb (times-point n a pa) (times-point n b pb)

-- [n](0, 1) = (0, 1)
pub times-neutral : (n : ℕ) → times_of n zero_point ≡ zero_point
times-neutral zero = times_zero zero_point
times-neutral (suc n) = times-next n zero_point ∙ ap (sum_of zero_point) (times-neutral n) ∙ zero-sum zero_point zero-point

-- [1]P = P
pub times-one : (a : Affine) → Point a → times_of 1 a ≡ a
unfolding times_of
times-one a pa = sum-zero a pa
