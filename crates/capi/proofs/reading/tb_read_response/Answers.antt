-- `capi::reading::tb_read_response` meets its contract.
use mathlib.Core.Path.{ap, ◌∙◌}
use Rattle.c_packets.specs.Reading.{tb_response}
use borrow.Author.Rules.{rules}
use Rattle.capi.proofs.reading.tb_read_response.Goals as goal

pub returns : goal.returns
returns c =
    c.into.ensures ∙ ap tb_response c.read_response.ensures
