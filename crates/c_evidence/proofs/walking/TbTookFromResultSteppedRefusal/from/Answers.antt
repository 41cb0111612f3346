-- A `TbTook` of a walk's answer meets its contract.
use mathlib.Core.Path.{sym, ap, ◌∙◌}
use Rattle.walk.specs.Taking.{said_in}
use Rattle.c_evidence.specs.Walking.{tb_took}
use borrow.Author.Rules.{rules}
use Rattle.c_evidence.proofs.walking.TbTookFromResultSteppedRefusal.from.Goals as goal

pub returns-in-Ok : goal.returns-in-Ok
returns-in-Ok c = c.into.ensures ∙ sym (ap (λ m. tb_took (said_in m)) c.in-Ok.is)

pub returns-in-Err : goal.returns-in-Err
returns-in-Err c = sym (ap (λ m. tb_took (said_in m)) c.in-Err.is)
