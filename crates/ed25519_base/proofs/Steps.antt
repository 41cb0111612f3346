-- A turn of the loop: a doubling, and a column more.
use Prim.Native.Nat.{ℕ, ◌+◌, ◌<◌}
use mathlib.Core.Path.{◌≡◌, ap, ◌∙◌}
use Rattle.ed25519_curve.specs.declared.Flat.{Flat}
use Rattle.ed25519_curve.specs.declared.Addend.{Addend}
use Rattle.ed25519_curve.specs.Points.{base, neutral}
use Rattle.ed25519_curve.specs.Coords.{flat_of, GoodFlat}
use Rattle.ed25519_group_laws.specs.Affine.{sum_of, times_of, point_of}
use Rattle.ed25519_group_laws.specs.Group.{Point}
use Rattle.ed25519_group_laws.proofs.Times.{times_zero, times-add}
use Rattle.ed25519_group_laws.proofs.Multiples.{neutral-stands, base-stands}
use Rattle.ed25519_windows.specs.Windows.{FlatFor, BaseRow}
use Rattle.ed25519_base.specs.Comb.{word_radix, comb_of, column_of, teeth_of, Turn}
use Rattle.ed25519_base.proofs.Words.{comb-first, comb-more}

-- q is [n]B
pub record Multiple (n : ℕ) (q : Flat) : Type 0 where
  pub good : GoodFlat q
  pub stands : FlatFor q (times_of n (point_of base))

-- [2 k + l]B
twice-and : (k l : ℕ)
    → times_of (k + k + l) (point_of base)
    ≡ sum_of (sum_of (times_of k (point_of base)) (times_of k (point_of base))) (times_of l (point_of base))
twice-and k l =
    let pb : Point (point_of base) = base-stands.point in
    times-add (k + k) l (point_of base) pb
    ∙ ap (λ s. sum_of s (times_of l (point_of base))) (times-add k k (point_of base) pb)

module _ (a b c d : ℕ) where
  pub step-first : (z : Flat) → a < word_radix → b < word_radix → c < word_radix → d < word_radix → flat_of z 0 ≡ neutral
      → GoodFlat z → Multiple (comb_of a b c d 64) z
  step-first z ha hb hc hd e g = record {
    good = g;
    stands = record {
      t = 0;
      stands = rw (comb-first a b c d ha hb hc hd, e, times_zero (point_of base)) neutral-stands;
    };
  }

  pub step-next : (i : ℕ) (q n : Flat) (r : Addend) → Multiple (comb_of a b c d (i + 1)) q
      → BaseRow (teeth_of (column_of a b c d i)) r → Turn q r n → Multiple (comb_of a b c d i) n
  step-next i q n r m x t =
      record {
        good = t.good;
        stands = rw (comb-more a b c d i, twice-and _ _) (t.stands _ _ m.stands x.stands);
      }
