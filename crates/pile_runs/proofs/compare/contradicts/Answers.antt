-- `pile_runs::compare::contradicts` meets its contract. The two radii are less than the difference of the times exactly
-- where `clash` holds.
use Prim.Native.Nat.{◌+◌, ◌-◌}
use mathlib.Core.Path.{sym}
use native.Mathlib.Omega.{arith}
use borrow.Author.Tests.{le-ltb}
use Rattle.pile_runs.proofs.Told.{ltb-same}
use Rattle.pile_runs.proofs.compare.contradicts.Goals as goal

pub returns-then-midp-later_midp : goal.returns-then-midp-later_midp
returns-then-midp-later_midp c =
    let a = c.args in
    sym (le-ltb (a.later_midp + a.later_radi + a.radi) a.midp (omega arith))

pub returns : goal.returns
returns c =
    let a = c.args in
    ltb-same (a.radi + a.later_radi) (a.midp - a.later_midp) (a.later_midp + a.later_radi + a.radi)
    a.midp (λ l. omega arith) (λ l. omega arith)
