use borrow.Author.Rules.{rules}
use Prim.Native.Nat.{◌+◌}
use mathlib.Core.Path.{ap}
use Rattle.list_write.specs.Lending.{given_of}
use Rattle.list_write.proofs.Openings.{server-room}
use Rattle.list_write.proofs.Spelling.{spelt-size}
use Rattle.list_write.proofs.sizing.server_room.Goals as goal

pub overflow_sub-d : goal.overflow_sub-d
overflow_sub-d c = let d = c.digits_of-d.ensures.inside in search rules

pub returns : goal.returns
returns c =
    server-room _ _ _ (given_of c.args.server) _ c.args.server.long (ap (λ n. 119 + n) (spelt-size c.digits_of-d.ensures))
    c.spend-a.ensures c.quoted_room.ensures c.items_room.ensures
