-- `capi::clocking::tb_clock_start_fields` meets its contract.
use mathlib.Core.Path.{◌≡◌, refl, sym, ◌∙◌}
use Rattle.std.specs.Prelude.{Err, Ok}
use Rattle.clock.specs.State.{started_of}
use borrow.Author.Rules.{rules}
use Rattle.capi.proofs.clocking.tb_clock_start_fields.Goals as goal

pub returns-in-Ok : goal.returns-in-Ok
returns-in-Ok c = rw (sym c.start.ensures ∙ c.in-Ok.is) (refl, refl, c.from.ensures)

pub returns-in-Err : goal.returns-in-Err
returns-in-Err c = rw (sym c.start.ensures ∙ c.in-Err.is) (c.number.ensures, refl, refl)
