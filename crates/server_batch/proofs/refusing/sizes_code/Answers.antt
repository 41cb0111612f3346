-- `server_batch::refusing::sizes_code` meets its contract. Each return is the first refusal of the row.
use Rattle.refusal.proofs.Passing.{test-on, test-refuses, none-left}
use Rattle.server_batch.specs.Answering.{sizes_code}
use Rattle.server_batch.proofs.Rooms.{count-right}
use Rattle.server_batch.proofs.refusing.sizes_code.Goals as goal

pub returns-then-count_wrong : goal.returns-then-count_wrong
unfolding sizes_code
returns-then-count_wrong c =
    test-refuses _ _ c.refuse.ensures tt c.count_wrong.ensures c.if-count_wrong.true

pub room_short-requires : goal.room_short-requires
room_short-requires c = count-right _ c.count_wrong.ensures c.if-count_wrong.false

pub returns-then-room_short : goal.returns-then-room_short
unfolding sizes_code
returns-then-room_short c =
    test-on _ _ c.count_wrong.ensures c.if-count_wrong.false
    (test-refuses _ _ c.refuse-then-room_short.ensures tt c.room_short.ensures c.if-room_short.true)

pub returns : goal.returns
unfolding sizes_code
returns c =
    test-on _ _ c.count_wrong.ensures c.if-count_wrong.false
    (test-on _ _ c.room_short.ensures c.if-room_short.false none-left)
