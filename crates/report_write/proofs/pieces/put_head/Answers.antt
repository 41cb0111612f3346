-- `report_write::pieces::put_head` meets its contract.
use Rattle.report_write.proofs.Heads.{head-only, head-only-done, head-left, head-right, head_done}
use Rattle.report_write.proofs.pieces.put_head.Goals as goal

pub put_piece-requires : goal.put_piece-requires
put_piece-requires c =
    let a = c.args in
    rw c.key.ensures
    (head-only a.r.now.bytes.now a.at c.if-first.true c.requires)

pub returns-then-first : goal.returns-then-first
returns-then-first c =
    let a = c.args in
    head-only-done a.r.now.bytes.now a.at c.if-first.true
    (rw c.key.ensures at c.put_piece.ensures)

pub put_piece-k-requires : goal.put_piece-k-requires
put_piece-k-requires c =
    let a = c.args in
    rw c.rand.ensures
    (head-left a.r.now.bytes.now a.at c.if-first.false c.requires)

pub put_piece-requires-2 : goal.put_piece-requires-2
put_piece-requires-2 c =
    let a = c.args in
    rw c.key-2.ensures
    (head-right a.r.now.bytes.now a.at c.if-first.false
    (rw c.rand.ensures at c.put_piece-k.ensures) c.requires)

pub returns : goal.returns
returns c =
    let a = c.args in
    head_done a.r.now.bytes.now a.at c.if-first.false (rw c.rand.ensures at c.put_piece-k.ensures)
    (rw c.key-2.ensures at c.put_piece-2.ensures)
