-- `capi::walking::tb_walk_start_fields` meets its contract.
use mathlib.Core.Path.{◌≡◌, refl, sym, ◌∙◌}
use borrow.Author.Rules.{rules}
use Rattle.capi.proofs.walking.tb_walk_start_fields.Goals as goal

pub returns-in-Ok : goal.returns-in-Ok
returns-in-Ok c = rw (sym c.start.ensures ∙ c.in-Ok.is) (refl, refl)

pub returns-in-Err : goal.returns-in-Err
returns-in-Err c = rw (sym c.start.ensures ∙ c.in-Err.is) (c.number.ensures, refl)
