-- `capi::reading::tb_signed_parts` meets its contract.
use mathlib.Core.Path.{ap, ◌∙◌}
use Rattle.c_packets.specs.Reading.{tb_parts}
use borrow.Author.Rules.{rules}
use Rattle.capi.proofs.reading.tb_signed_parts.Goals as goal

pub returns : goal.returns
returns c =
    c.into.ensures ∙ ap tb_parts c.read_signed_parts.ensures
