-- `server_batch::measuring::length_of` meets its contract.
use mathlib.Core.Path.{sym, ◌∙◌}
use Rattle.server_batch.proofs.measuring.length_of.Goals as goal

pub returns-then-stays : goal.returns-then-stays
returns-then-stays c = rw (sym c.stays.ensures ∙ c.if-stays.true)

pub returns-else-stays : goal.returns-else-stays
returns-else-stays c = rw (sym c.stays.ensures ∙ c.if-stays.false)
