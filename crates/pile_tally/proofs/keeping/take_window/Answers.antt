-- `pile_tally::keeping::take_window` meets its contract. What it says of any state it says of windows of which that is
-- kept.
use mathlib.Core.Path.{ap₂}
use mathlib.Core.Bool.{Bool}
use Prim.Native.Nat.{ℕ}
use Rattle.pile_tally.proofs.Goes.{both-clauses}
use native.Mathlib.Omega.{arith}
use Rattle.pile_tally.proofs.keeping.take_window.Goals as goal

pub returns : goal.returns
returns c =
    let both =
    both-clauses {t = c.args.tally} {midp = c.args.midp} {radi = c.args.radi}
    {r = record { tally = record { most = c.max-kept.result }; contradicts = c.ends_below-earlier.result }}
    (ap₂ (λ (x : ℕ) (b : Bool). record { tally = record { most = x }; contradicts = b })
    (omega (arith, c.max-kept.ensures, c.low_end-low.ensures))
    c.ends_below-earlier.ensures) in
    record { as_it_goes = both.0; value = both.1 }
