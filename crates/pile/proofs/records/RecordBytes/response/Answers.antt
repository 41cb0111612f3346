-- `pile::records::RecordBytes::response` meets its contract.
use native.Mathlib.Omega.{arith}
use lib.ListN.{length-take}
use Rattle.pile.specs.Pile.{response_packet}
use Rattle.pile.proofs.records.RecordBytes.response.Goals as goal

pub slice_bounds-result-end : goal.slice_bounds-result-end
slice_bounds-result-end c = simp length-take (omega arith)

pub returns : goal.returns
unfolding response_packet
returns c =
    rw (c.response_area.ensures.0, c.response_length.ensures)
