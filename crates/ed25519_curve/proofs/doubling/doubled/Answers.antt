-- `ed25519_curve::doubling::doubled` meets its contract.
use mathlib.Core.Path.{◌∙◌}
use Rattle.ed25519_field.proofs.Raise.{up, up4}
use Rattle.ed25519_curve.specs.Points.{point_double}
use Rattle.ed25519_curve.proofs.doubling.doubled.Goals as goal

pub square-a-requires : goal.square-a-requires
square-a-requires c = let g = c.requires in up4 tt g.0

pub square-b-requires : goal.square-b-requires
square-b-requires c = let g = c.requires in up4 tt g.1

pub square-w-requires : goal.square-w-requires
square-w-requires c = let g = c.requires in up4 tt g.2

pub add-c-requires : goal.add-c-requires
add-c-requires c = let w = c.square-w.ensures.limbs in (up tt w, up tt w)

pub add-e-requires : goal.add-e-requires
add-e-requires c =
    let g = c.requires in
    (up tt g.0, up tt g.1)

pub square-s-requires : goal.square-s-requires
square-s-requires c =
    let g = c.requires in up4 tt
    (c.add-e.ensures.grows 1 1 g.0 g.1)

pub double_with-requires : goal.double_with-requires
double_with-requires c =
    let w =
    c.square-w.ensures.limbs in (
      c.square-a.ensures.limbs,
      c.square-b.ensures.limbs,
      c.add-c.ensures.grows 1 1 w w,
      c.square-s.ensures.limbs,
    )

pub returns : goal.returns
unfolding point_double
returns c =
    let f = c.double_with.ensures in (
      record {
        is = λ t. f.0 ∙ (rw (
          c.square-a.ensures.is,
          c.square-b.ensures.is,
          c.add-c.ensures.is,
          c.square-w.ensures.is,
          c.square-s.ensures.is,
          c.add-e.ensures.is,
        ));
      },
      f.1,
    )
