-- `report_write::pieces::put_packets` meets its contract.
use Rattle.report_write.proofs.Heads.{packets-left, packets-right, packets-done}
use Rattle.report_write.proofs.pieces.put_packets.Goals as goal

pub request-requires : goal.request-requires
request-requires c = c.requires.0.request

pub put_piece-k-requires : goal.put_piece-k-requires
put_piece-k-requires c =
    let a = c.args in
    packets-left a.r.now.bytes.now a.at c.request.ensures c.requires.1

pub response-requires : goal.response-requires
response-requires c = c.requires.0.response

pub put_piece-requires : goal.put_piece-requires
put_piece-requires c =
    let a = c.args in
    packets-right a.r.now.bytes.now a.at c.request.ensures
    c.response.ensures c.put_piece-k.ensures
    c.requires.1

pub returns : goal.returns
returns c =
    let a =
    c.args in
    packets-done a.r.now.bytes.now a.at
    c.request.ensures
    c.response.ensures
    c.put_piece-k.ensures
    c.put_piece.ensures
