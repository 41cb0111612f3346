-- `ed25519_base::columns::picked` meets its contract.
use lib.Dec.{eqb}
use Rattle.ed25519_base.proofs.Rows.{row-picked}
use Rattle.ed25519_base.proofs.columns.picked.Goals as goal

pub returns : goal.returns
returns c =
    let g = c.args in
    row-picked (eqb g.bit 1) g.a g.b _ _ _ c.select-minus.ensures c.select-plus.ensures
    c.select-scaled.ensures
