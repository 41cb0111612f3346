-- `ed25519_curve::rows::row_of` meets its contract.
use mathlib.Core.Path.{ap, ◌∙◌}
use Rattle.ed25519_field.specs.Limbs.{num}
use Rattle.ed25519_field.specs.Field.{mul_f}
use Rattle.ed25519_field.proofs.Raise.{up, up3}
use Rattle.ed25519_curve.proofs.rows.row_of.Goals as goal

pub sub-minus-requires : goal.sub-minus-requires
sub-minus-requires c = let g = c.requires in (up tt g.y, g.x)

pub add-plus-requires : goal.add-plus-requires
add-plus-requires c = let g = c.requires in (up tt g.y, up tt g.x)

pub add-twice-requires : goal.add-twice-requires
add-twice-requires c = let g = c.requires in (up tt g.z, up tt g.z)

pub mul-scaled-requires : goal.mul-scaled-requires
mul-scaled-requires c =
    let g = c.requires in
    (up tt g.t, up tt c.two_d.ensures.1)

pub returns : goal.returns
returns c =
    let g = c.requires in
    let d = c.two_d.ensures in
    let twice = c.add-twice.ensures in
    let plus = c.add-plus.ensures in
    let minus = c.sub-minus.ensures in
    record {
      minus_is = minus.is;
      plus-is = plus.is;
      twice-is = twice.is;
      scaled-is = c.mul-scaled.ensures.is ∙ ap (mul_f (num c.args.p.t)) d.0;
      even = record {
        minus = minus.grows 1 g.y;
        plus = up3 (plus.grows 1 1 g.y g.x);
        twice = twice.grows 1 1 g.z g.z;
        scaled = c.mul-scaled.ensures.limbs;
      };
    }
