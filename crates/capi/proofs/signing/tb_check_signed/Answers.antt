-- `capi::signing::tb_check_signed` meets its contract.
use mathlib.Core.Path.{ap, ◌∙◌}
use Rattle.c_packets.specs.Judging.{tb_verdict}
use borrow.Author.Rules.{rules}
use Rattle.capi.proofs.signing.tb_check_signed.Goals as goal

pub returns : goal.returns
returns c =
    c.into.ensures ∙ ap tb_verdict c.check_signed.ensures.value
