-- `check_response::windows::window_at` meets its contract.
use Rattle.check_response.proofs.windows.window_at.Goals as goal

pub returns : goal.returns
returns c = rw (c.low_end.ensures, c.high_end.ensures)
