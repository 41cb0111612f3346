-- The group equation, by [S]B + [k](-A).
use Prim.Native.Nat.{ℕ, ◌^◌, ◌<◌}
use mathlib.Core.Path.{◌≡◌, sym, ◌∙◌}
use mathlib.Core.Bool.{Bool}
use mathlib.Core.List.{List}
use native.Mathlib.Nat.{lt_trans}
use lib.Dec.{lit<}
use Rattle.digits.specs.Digits.{value}
use Rattle.digits.proofs.Bounds.{value-lt}
use lib.ListN.{length}
use Rattle.ed25519_field.specs.Limbs.{radix, Digits}
use Rattle.ed25519_curve.specs.declared.Point.{Point as Coords}
use Rattle.ed25519_curve.specs.declared.Flat.{Flat}
use Rattle.ed25519_curve.specs.declared.Addend.{Addend}
use Rattle.ed25519_curve.specs.Points.{base, point_mul, point_add, point_equal}
use Rattle.ed25519_curve.specs.Coords.{pt_of, flat_of, Cached, Opposed}
use Rattle.ed25519_group_laws.specs.Affine.{Affine, times_of, point_of}
use Rattle.ed25519_group_laws.specs.Group.{Point, minus_of}
use Rattle.ed25519_group_laws.proofs.Group.{minus-point}
use Rattle.ed25519_group_laws.proofs.Times.{times-point}
use Rattle.ed25519_group_laws.proofs.Adding.{sum-stands}
use Rattle.ed25519_group_laws.proofs.Multiples.{base-stands, multiple-stands}
use Rattle.ed25519_group_laws.proofs.Equality.{equal_is}
use Rattle.ed25519_group_laws.proofs.Opposites.{sides, times-minus}
use Rattle.ed25519_windows.specs.Windows.{RowFor, Paired, Itself}
use Rattle.ed25519_windows.proofs.Coordinates.{row-for, turned-off}
use Rattle.ed25519.specs.Verification.{group_equation}

-- digits are a scalar that multiples are defined for
pub digits_low : (l : List ℕ) → length l ≡ 5 → Digits l → value radix l < 2 ^ 256
digits_low l h e =
    let k : value radix l < 2 ^ 255 = rw h at (value-lt 2251799813685247 l e) in
    lt_trans k (lit< tt)

pub equation-is : (a r : Coords) (u m : Addend) (q : Flat) (b : Bool) (S K : ℕ) → Itself (pt_of a) → Itself (pt_of r)
    → S < 2 ^ 256 → K < 2 ^ 256 → Cached (pt_of a) u → Opposed u m → Paired m S K q
    → ((t : ℕ) → b ≡ point_equal (flat_of q t) (pt_of r)) → b ≡ group_equation (pt_of a) (pt_of r) S K
equation-is a r u m q b S K sa sr ls lk c o w e =
    let x : Affine = point_of (pt_of a) in
    let px : Point x = sa.point in
    let pb : Point (point_of base) = base-stands.point in
    let row : RowFor m (minus_of x) = (turned-off u m (o.even c.even) o).stands x (row-for a u x c sa) in
    let h = w.stands (minus_of x) row in
    e h.t ∙ equal_is (flat_of q h.t) (pt_of r) _ _ h.stands sr
    ∙ sides (times_of K (minus_of x)) (times_of K x) (times_of S (point_of base)) (point_of (pt_of r))
    (times-point K (minus_of x) (minus-point x px)) (times-point K x px) (times-point S (point_of base) pb) sr.point
    (times-minus K x px)
    ∙ sym (equal_is (point_mul S base) (point_add (pt_of r) (point_mul K (pt_of a))) _ _
    (multiple-stands S base _ ls base-stands)
    (sum-stands _ _ _ _ sr (multiple-stands K (pt_of a) x lk sa)))
