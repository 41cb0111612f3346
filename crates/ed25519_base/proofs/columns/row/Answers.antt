-- `ed25519_base::columns::row` meets its contract.
use Rattle.std.proofs.Common.{◌≡◌, arith}
use Rattle.ed25519_base.proofs.columns.row.Goals as goal

pub loop-j-init : goal.loop-j-init
loop-j-init c = λ h. (let z : c.args.k ≡ 0 = omega arith in rw z c.row_at-out.ensures)
