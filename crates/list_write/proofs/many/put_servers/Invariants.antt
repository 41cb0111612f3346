-- The servers that are still to come are left to put.
use mathlib.Core.Bool.{true}
use mathlib.Core.Path.{◌≡◌}
use Rattle.list_write.specs.Lent.{all_servers}
use Rattle.list_write.specs.Facts.{given_left}
use Rattle.list_write.specs.Texts.{row, server_text}
use Rattle.list_write.proofs.Arrays.{Rowing}
use Rattle.list_write.proofs.many.put_servers.Given as goal

abbrev pub invariant-loop-server : goal.invariant-loop-server
invariant-loop-server l =
    (goal.iterator-loop-server).can_next l.server-iterator
    × (goal.iterator-loop-server).is_finite l.server-iterator
    × (all_servers (given_left l.server-iterator) ≡ true)
    × Rowing server_text (row server_text true (given_left l.fn.servers)) l.initial.out l.fn.at
    (given_left l.server-iterator) l.before l.out l.j
