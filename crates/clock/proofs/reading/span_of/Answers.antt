-- `clock::reading::span_of` meets its contract.
use Rattle.clock.specs.Used.{span_of}
use Rattle.clock.proofs.reading.span_of.Goals as goal

pub returns : goal.returns
unfolding span_of
returns c = c.server_span.ensures
