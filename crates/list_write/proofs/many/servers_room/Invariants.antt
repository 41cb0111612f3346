-- Room for the servers that are still to come is left to take.
use mathlib.Core.Bool.{true}
use mathlib.Core.Path.{◌≡◌}
use lib.ListN.{length}
use Rattle.list_write.specs.Lent.{all_servers}
use Rattle.list_write.specs.Facts.{given_left}
use Rattle.list_write.specs.Texts.{row, server_text}
use Rattle.list_write.proofs.Arrays.{Roomed}
use Rattle.list_write.proofs.many.servers_room.Given as goal

abbrev pub invariant-loop-server : goal.invariant-loop-server
invariant-loop-server l =
    (goal.iterator-loop-server).can_next l.server-iterator
    × (goal.iterator-loop-server).is_finite l.server-iterator
    × (all_servers (given_left l.server-iterator) ≡ true)
    × Roomed server_text (length (row server_text true (given_left l.fn.servers))) l.fn.room
    (given_left l.server-iterator) l.before l.left
