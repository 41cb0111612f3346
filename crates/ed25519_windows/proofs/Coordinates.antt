-- What doublings, additions and rows stand for.
use Prim.Native.Nat.{ℕ, ◌≤◌}
use mathlib.Core.Path.{◌≡◌}
use mathlib.Core.Bool.{true, false}
use mathlib.Core.List.{List}
use native.Mathlib.Omega.{arith}
use Rattle.ed25519_field.specs.Field.{p}
use Rattle.ed25519_field.specs.Limbs.{num}
use Rattle.ed25519_field.proofs.Reducing.{num-lt}
use Rattle.ed25519_field.proofs.Elements.{sub-below}
use Rattle.ed25519_curve.specs.declared.Point.{Point as Coords}
use Rattle.ed25519_curve.specs.declared.Flat.{Flat}
use Rattle.ed25519_curve.specs.declared.Ends.{Ends}
use Rattle.ed25519_curve.specs.declared.Addend.{Addend}
use Rattle.ed25519_curve.specs.Coords.{pt_of, flat_of, end_of, sum_with, Doubled, Even, Cached, opposite_of, Opposed}
use Rattle.ed25519_curve.proofs.Joining.{summed-is}
use Rattle.ed25519_group_laws.specs.Affine.{Affine, sum_of}
use Rattle.ed25519_group_laws.specs.Standing.{StandsFor}
use Rattle.ed25519_group_laws.proofs.Adding.{sum-stands}
use Rattle.ed25519_group_laws.proofs.Doubling.{double-stands}
use Rattle.ed25519_group_laws.proofs.Opposites.{opposite-stands}
use Rattle.ed25519_windows.specs.Windows.{FlatFor, RowFor, Turned}

-- the double of coordinates without T
pub doubled-stands : (q : Flat) (s : Ends) (a : Affine) → Doubled (num q.x) (num q.y) (num q.z) (end_of s)
    → FlatFor q a → StandsFor (end_of s) (sum_of a a)
doubled-stands q s a d h = rw (d.is h.t) (double-stands (flat_of q h.t) a h.stands)

pub flat-for : (r : Flat) (s : Ends) (a : Affine) → flat_of r (end_of s).T ≡ end_of s → StandsFor (end_of s) a
    → FlatFor r a
flat-for r s a e h = record { t = (end_of s).T; stands = rw e h }

-- an addition of a row
pub summed-stands : (q : Coords) (r : Addend) (s : Ends) (a b : Affine) → StandsFor (pt_of q) a → RowFor r b
    → end_of s ≡ sum_with q r → StandsFor (end_of s) (sum_of a b)
summed-stands q r s a b h f e =
    rw (e, summed-is q f.P r f.cached) (sum-stands (pt_of q) f.P a b h f.stands)

num-low : (l : List ℕ) → num l ≤ p
num-low l = omega (arith, num-lt l)

-- a row of coordinates that stand for a point
pub row-for : (q : Coords) (r : Addend) (a : Affine) → Cached (pt_of q) r → StandsFor (pt_of q) a → RowFor r a
row-for q r a c h = record { P = pt_of q; low = num-low q.t; cached = c; stands = h }

pub turned_on : (r : Addend) → Even r → Turned false r r
turned_on r e = record { even = e; stands = λ a h. h }

pub turned-off : (r s : Addend) → Even s → Opposed r s → Turned true r s
turned-off r s e o = record {
  even = e;
  stands =
      λ a h. record {
        P = opposite_of h.P;
        low = omega (arith, sub-below 0 h.P.T);
        cached = o.is h.P h.stands.low h.low h.cached;
        stands = opposite-stands h.P a h.low h.stands;
      };
}
