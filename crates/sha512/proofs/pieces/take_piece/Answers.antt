-- `sha512::pieces::take_piece` meets its contract.
use Rattle.std.proofs.Common.{arith}
use Rattle.sha512.proofs.State.{fed-refused, fed-passed}
use Rattle.sha512.proofs.pieces.take_piece.Goals as goal

pub returns-then-piece-r : goal.returns-then-piece-r
returns-then-piece-r c =
    let a = c.args in
    fed-refused a.r a.piece.now (omega arith) c.refuse.result (omega arith) c.refuse.ensures

pub returns : goal.returns
returns c =
    let a = c.args in
    fed-passed a.r a.piece.now (omega arith) c.update.result (omega arith) c.update.ensures
