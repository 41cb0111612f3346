-- `pile_tally::keeping::ends_below` meets its contract. RADI is below the difference exactly where the sum is below
-- `most`.
use Prim.Native.Nat.{◌+◌, ◌-◌}
use mathlib.Core.Path.{sym}
use native.Mathlib.Omega.{arith}
use borrow.Author.Tests.{le-ltb}
use Rattle.pile_runs.proofs.Told.{ltb-same}
use Rattle.pile_tally.proofs.keeping.ends_below.Goals as goal

pub returns-then-most-midp : goal.returns-then-most-midp
returns-then-most-midp c =
    sym (le-ltb (c.args.midp + c.args.radi) c.args.most (omega arith))

pub returns : goal.returns
returns c =
    let midp = c.args.midp in
    let radi = c.args.radi in
    let most = c.args.most in
    ltb-same radi (most - midp) (midp + radi) most (λ l. omega arith) (λ l. omega arith)
