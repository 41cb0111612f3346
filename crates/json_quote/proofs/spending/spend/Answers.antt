-- `json_quote::spending::spend` meets its contract.
use mathlib.Core.Path.{◌∙◌}
use Rattle.json_quote.proofs.Rooms.{spent-checked, spent-none}
use Rattle.json_quote.proofs.spending.spend.Goals as goal

pub returns-in_err-room : goal.returns-in_err-room
returns-in_err-room c = c.from_residual.ensures ∙ spent-none _ c.in_err-room.was

pub returns : goal.returns
returns c = spent-checked c.args.n _ c.in_ok-room.was c.checked_sub.ensures
