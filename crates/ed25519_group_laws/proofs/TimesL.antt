-- L times the base point is the neutral point: computed by the definition of multiples bit by bit, and so of n-fold
-- sums.
use Prim.Native.Nat.{◌^◌, ◌<◌}
use mathlib.Core.Path.{◌≡◌, refl}
use mathlib.Core.Bool.{true}
use lib.Dec.{lit<}
use Rattle.ed25519_field.specs.Field.{p, add_f, sub_f, mul_f}
use Rattle.ed25519_curve.specs.Points.{d, two_d, base, neutral, point_add, point_double, mul_from, point_mul, point_equal}
use Rattle.ed25519_scalar.specs.Order.{L}
use Rattle.ed25519_group_laws.specs.Affine.{zero_point, times_of, point_of}
use Rattle.ed25519_group_laws.proofs.Multiples.{base-stands, neutral-stands, multiple-stands}
use Rattle.ed25519_group_laws.proofs.Equality.{equal-exactly}

pub order-base : point_equal (point_mul L base) neutral ≡ true
unfolding p d two_d L base neutral add_f sub_f mul_f point_add point_double mul_from point_equal
order-base = refl

-- scalars are below L, and so below 2^256
pub L-low : L < 2 ^ 256
unfolding L
L-low = lit< tt

pub order-affine : times_of L (point_of base) ≡ zero_point
order-affine =
    (equal-exactly (point_mul L base) neutral _ zero_point (multiple-stands L base _ L-low base-stands) neutral-stands).0
    order-base
