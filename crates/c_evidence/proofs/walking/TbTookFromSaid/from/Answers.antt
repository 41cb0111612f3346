-- A `TbTook` of what is said meets its contract.
use Rattle.std.specs.Prelude.{Ok}
use mathlib.Core.Path.{sym, ap, ◌∙◌}
use Rattle.c_evidence.specs.Walking.{tb_took}
use borrow.Author.Rules.{rules}
use Rattle.c_evidence.proofs.walking.TbTookFromSaid.from.Goals as goal

pub returns-in-Next : goal.returns-in-Next
returns-in-Next c = c.stands_at.ensures ∙ sym (ap (λ s. tb_took (Ok s)) c.in-Next.is)

pub returns-in-Ended : goal.returns-in-Ended
returns-in-Ended c = c.into.ensures ∙ sym (ap (λ s. tb_took (Ok s)) c.in-Ended.is)
