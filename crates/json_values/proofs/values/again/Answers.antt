use mathlib.Core.Path.{sym}
use Rattle.json_values.proofs.values.again.Goals as goal

pub returns-in-Some : goal.returns-in-Some
returns-in-Some c = sym c.in-Some.is
