-- `capi::reading::tb_read_request` meets its contract.
use mathlib.Core.Path.{ap, ◌∙◌}
use Rattle.c_packets.specs.Reading.{tb_request}
use borrow.Author.Rules.{rules}
use Rattle.capi.proofs.reading.tb_read_request.Goals as goal

pub returns : goal.returns
returns c =
    c.into.ensures ∙ ap tb_request c.read_request.ensures
