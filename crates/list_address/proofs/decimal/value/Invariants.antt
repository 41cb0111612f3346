use Prim.Native.Nat.{◌+◌, ◌*◌, ◌^◌, ◌≤◌}
use mathlib.Core.Path.{◌≡◌}
use lib.ListN.{drop}
use Rattle.list_address.specs.Decimal.{worth}
use Rattle.list_address.proofs.decimal.value.Given as goal

-- the number of the digits so far, and of those left, is that of all
abbrev pub invariant-loop-d : goal.invariant-loop-d
invariant-loop-d l = (worth l.n (drop l.d-index l.s) ≡ worth 0 l.s) × (l.n + 30 ≤ 30 * 10 ^ l.d-index)
