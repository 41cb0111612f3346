-- The loop's invariant: row k is chosen, if it is below `j`.
use Rattle.std.proofs.Common.{◌<◌}
use Rattle.ed25519_curve.specs.Coords.{whole_of}
use Rattle.ed25519_windows.specs.Windows.{BaseRow}
use Rattle.ed25519_base.specs.Comb.{teeth_of}
use Rattle.ed25519_base.proofs.columns.row.Given as goal

abbrev pub invariant-loop-j : goal.invariant-loop-j
invariant-loop-j l = l.k < l.j → BaseRow (teeth_of l.k) (whole_of l.out)
