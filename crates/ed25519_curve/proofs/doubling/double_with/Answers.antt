-- `ed25519_curve::doubling::double_with` meets its contract.
use Rattle.ed25519_field.proofs.Raise.{up}
use Rattle.ed25519_curve.proofs.doubling.double_with.Goals as goal

pub add-h-requires : goal.add-h-requires
add-h-requires c = (up tt c.requires.0, up tt c.requires.1)

pub sub-g-requires : goal.sub-g-requires
sub-g-requires c = (up tt c.requires.0, c.requires.1)

pub sub-e-requires : goal.sub-e-requires
sub-e-requires c =
    let g = c.requires in (up tt (c.add-h.ensures.grows 1 1 g.0 g.1), g.3)

pub add-f-requires : goal.add-f-requires
add-f-requires c =
    let g = c.requires in (up tt g.2, up tt (c.sub-g.ensures.grows 1 g.0))

pub returns : goal.returns
returns c =
    let g = c.requires in
    let h = c.add-h.ensures.grows 1 1 g.0 g.1 in
    let k = c.sub-g.ensures.grows 1 g.0 in (
      rw (
        c.sub-e.ensures.is,
        c.add-f.ensures.is,
        c.add-h.ensures.is,
        c.sub-g.ensures.is,
      ),
      record {
        e = up tt (c.sub-e.ensures.grows 2 h);
        f = up tt (c.add-f.ensures.grows 2 3 g.2 k);
        g = up tt k;
        h = up tt h;
      },
    )
