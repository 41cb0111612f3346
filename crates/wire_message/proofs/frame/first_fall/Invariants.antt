-- `wire_message::frame::first_fall` meets its contract. The scan has found no fall below k.
use mathlib.Core.Path.{◌≡◌}
use Rattle.laws.specs.Least.{least}
use Rattle.wire_message.specs.Frame.{not_above}
use Rattle.wire_message.proofs.frame.first_fall.Given as goal

abbrev pub invariant-loop-k : goal.invariant-loop-k
invariant-loop-k l = least (not_above l.s l.at) l.k ≡ l.k
