-- `capi::stamping::tb_old_window` meets its contract.
use mathlib.Core.Path.{ap, ◌∙◌}
use Rattle.c_packets.specs.Stamping.{tb_old}
use borrow.Author.Rules.{rules}
use Rattle.capi.proofs.stamping.tb_old_window.Goals as goal

pub returns : goal.returns
returns c = c.into.ensures ∙ ap tb_old c.old_window.ensures.value
