-- `capi::signing::tb_judge_signed` meets its contract.
use mathlib.Core.Path.{ap, ◌∙◌}
use Rattle.c_evidence.specs.Piling.{tb_judged}
use borrow.Author.Rules.{rules}
use Rattle.capi.proofs.signing.tb_judge_signed.Goals as goal

pub returns : goal.returns
returns c =
    c.into.ensures ∙ ap tb_judged c.judge_signed.ensures.value
