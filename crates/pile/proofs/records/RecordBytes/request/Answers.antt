-- `pile::records::RecordBytes::request` meets its contract.
use native.Mathlib.Omega.{arith}
use lib.ListN.{length-take}
use Rattle.pile.specs.Pile.{request_packet}
use Rattle.pile.proofs.records.RecordBytes.request.Goals as goal

pub slice_bounds-result-end : goal.slice_bounds-result-end
slice_bounds-result-end c = simp length-take (omega arith)

pub returns : goal.returns
unfolding request_packet
returns c =
    rw (c.request_area.ensures.0, c.request_length.ensures)
