-- `ed25519_curve::adding::summed` meets its contract.
use mathlib.Core.Path.{◌∙◌}
use Rattle.ed25519_field.proofs.Raise.{up, up2}
use Rattle.ed25519_curve.proofs.adding.summed.Goals as goal

pub sub-requires : goal.sub-requires
sub-requires c =
    let g = c.requires.0 in
    (up tt g.y, g.x)

pub mul-a-requires : goal.mul-a-requires
mul-a-requires c =
    let g = c.requires in
    (up tt (c.sub.ensures.grows 1 g.0.y), up tt g.1.minus)

pub add-requires : goal.add-requires
add-requires c =
    let g =
    c.requires.0 in
    (up tt g.y, up tt g.x)

pub mul-b-requires : goal.mul-b-requires
mul-b-requires c =
    let g =
    c.requires in
    (up tt (c.add.ensures.grows 1 1 g.0.y g.0.x), up tt g.1.plus)

pub mul-c-requires : goal.mul-c-requires
mul-c-requires c =
    let g =
    c.requires in
    (up tt g.0.t, up tt g.1.scaled)

pub mul-d-requires : goal.mul-d-requires
mul-d-requires c =
    let g =
    c.requires in
    (up tt g.0.z, up tt g.1.twice)

pub add_with-requires : goal.add_with-requires
add_with-requires c = (
  c.mul-a.ensures.limbs,
  c.mul-b.ensures.limbs,
  c.mul-c.ensures.limbs,
  up2 c.mul-d.ensures.limbs,
)

pub returns : goal.returns
returns c =
    let f = c.add_with.ensures in (
      f.0 ∙ (rw (
        c.mul-a.ensures.is,
        c.sub.ensures.is,
        c.mul-b.ensures.is,
        c.add.ensures.is,
        c.mul-c.ensures.is,
        c.mul-d.ensures.is,
      )),
      f.1,
    )
