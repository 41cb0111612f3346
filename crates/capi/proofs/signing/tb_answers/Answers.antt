-- `capi::signing::tb_answers` meets its contract.
use mathlib.Core.Path.{ap, ◌∙◌}
use Rattle.c_evidence.specs.Signing.{tb_answers}
use borrow.Author.Rules.{rules}
use Rattle.capi.proofs.signing.tb_answers.Goals as goal

pub returns : goal.returns
returns c = c.answers_told-a.ensures ∙ ap tb_answers c.answers.ensures
