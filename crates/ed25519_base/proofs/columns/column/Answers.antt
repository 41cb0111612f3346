-- `ed25519_base::columns::column` meets its contract.
use Rattle.ed25519_base.specs.Comb.{column_of}
use Rattle.ed25519_base.proofs.columns.column.Goals as goal

pub returns : goal.returns
unfolding column_of
returns c =
    rw (
      c.veiled-x.ensures,
      c.veiled-y.ensures,
      c.veiled-z.ensures,
      c.veiled-w.ensures,
    )
