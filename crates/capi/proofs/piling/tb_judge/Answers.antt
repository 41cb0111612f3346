-- `capi::piling::tb_judge` meets its contract.
use mathlib.Core.Path.{ap, ◌∙◌}
use Rattle.c_evidence.specs.Piling.{tb_judged}
use borrow.Author.Rules.{rules}
use Rattle.capi.proofs.piling.tb_judge.Goals as goal

pub returns : goal.returns
returns c =
    c.into.ensures ∙ ap tb_judged c.judge.ensures.value
