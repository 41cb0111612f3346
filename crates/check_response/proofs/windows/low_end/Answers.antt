-- `check_response::windows::low_end` meets its contract. Where the radius is larger, the difference of naturals is 0.
use mathlib.Core.Path.{refl, sym}
use native.Mathlib.Nat.{sub-eq-zero_of_le}
use native.Mathlib.Omega.{arith}
use Rattle.check_response.proofs.windows.low_end.Goals as goal

pub returns-then-radi-midp : goal.returns-then-radi-midp
returns-then-radi-midp c = refl

pub returns-else-radi-midp : goal.returns-else-radi-midp
returns-else-radi-midp c = sym (sub-eq-zero_of_le (omega arith))
