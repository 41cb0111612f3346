-- `ed25519_curve::adding::add_with` meets its contract.
use Rattle.ed25519_field.proofs.Raise.{up}
use Rattle.ed25519_curve.proofs.adding.add_with.Goals as goal

pub sub-e-requires : goal.sub-e-requires
sub-e-requires c = (up tt c.requires.1, c.requires.0)

pub sub-f-requires : goal.sub-f-requires
sub-f-requires c = (up tt c.requires.3, c.requires.2)

pub add-g-requires : goal.add-g-requires
add-g-requires c = let g = c.requires in (up tt g.3, up tt g.2)

pub add-h-requires : goal.add-h-requires
add-h-requires c = let g = c.requires in (up tt g.1, up tt g.0)

pub returns : goal.returns
returns c =
    let g = c.requires in (
      rw (
        c.sub-e.ensures.is,
        c.sub-f.ensures.is,
        c.add-g.ensures.is,
        c.add-h.ensures.is,
      ),
      record {
        e = up tt (c.sub-e.ensures.grows 1 g.1);
        f = up tt (c.sub-f.ensures.grows 2 g.3);
        g = up tt (c.add-g.ensures.grows 2 1 g.3 g.2);
        h = up tt (c.add-h.ensures.grows 1 1 g.1 g.0);
      },
    )
