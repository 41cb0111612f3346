-- `capi::judging::tb_check_response` meets its contract.
use mathlib.Core.Path.{ap, ap₂, ◌∙◌}
use Rattle.c_packets.specs.Judging.{tb_verdict}
use Rattle.check_response.specs.Check.{checked_of}
use borrow.Author.Rules.{rules}
use Rattle.capi.proofs.judging.tb_check_response.Goals as goal

pub returns : goal.returns
returns c =
    let answers = ap₂ (checked_of _ _) c.yes.ensures c.yes-2.ensures in
    c.into.ensures ∙ ap tb_verdict (c.check_response.ensures.value ∙ answers)
