-- The loop's invariant: the rows below `i` are in, and `q` is the point of the last of them.
use Rattle.std.proofs.Common.{◌-◌, ◌*◌}
use Rattle.ed25519_curve.specs.Coords.{Good}
use Rattle.ed25519_windows.specs.Windows.{Rows, Multiple, at}
use Rattle.ed25519_windows.proofs.Tables.{Fold}
use Rattle.ed25519_windows.proofs.multiples.multiples.Given as goal

abbrev pub invariant-loop-i : goal.invariant-loop-i
invariant-loop-i l =
    Good l.q × Fold (at l.initial.t 0) l.q (2 * l.i - 1) × Rows (at l.initial.t 0) l.t l.i × Multiple (at l.initial.t 0) l.two 2
