-- `ed25519_curve::adding::summed_thin` meets its contract.
use mathlib.Core.Path.{◌∙◌}
use Rattle.ed25519_field.proofs.Raise.{up}
use Rattle.ed25519_curve.proofs.Joining.{twice_two}
use Rattle.ed25519_curve.proofs.adding.summed_thin.Goals as goal

pub sub-requires : goal.sub-requires
sub-requires c =
    let g = c.requires.0 in
    (up tt g.y, g.x)

pub mul-a-requires : goal.mul-a-requires
mul-a-requires c =
    let g = c.requires in
    (up tt (c.sub.ensures.grows 1 g.0.y), up tt g.1.minus)

pub add-requires : goal.add-requires
add-requires c =
    let g = c.requires.0 in
    (up tt g.y, up tt g.x)

pub mul-b-requires : goal.mul-b-requires
mul-b-requires c =
    let g =
    c.requires in
    (up tt (c.add.ensures.grows 1 1 g.0.y g.0.x), up tt g.1.plus)

pub mul-c-requires : goal.mul-c-requires
mul-c-requires c =
    let g =
    c.requires in
    (up tt g.0.t, up tt g.1.scaled)

pub add-d-requires : goal.add-d-requires
add-d-requires c =
    let g =
    c.requires.0 in
    (up tt g.z, up tt g.z)

pub add_with-requires : goal.add_with-requires
add_with-requires c =
    let g = c.requires.0 in (
      c.mul-a.ensures.limbs,
      c.mul-b.ensures.limbs,
      c.mul-c.ensures.limbs,
      c.add-d.ensures.grows 1 1 g.z g.z,
    )

pub returns : goal.returns
returns c =
    let f = c.add_with.ensures in (
      f.0 ∙ (rw (
        c.mul-a.ensures.is,
        c.sub.ensures.is,
        c.mul-b.ensures.is,
        c.add.ensures.is,
        c.mul-c.ensures.is,
        c.add-d.ensures.is,
        twice_two,
      )),
      f.1,
    )
