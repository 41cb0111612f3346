use mathlib.Core.Path.{◌≡◌}
use borrow.Author.Rules.{rules}
use Rattle.list_write.specs.Texts.{server_text, servers_text}
use Rattle.list_write.proofs.Arrays.{roomed-first, roomed-turn, roomed-last}
use Rattle.list_write.proofs.Lends.{servers-first, good-lines}
use Rattle.list_write.proofs.many.servers_room.Goals as goal

pub loop-server-init : goal.loop-server-init
loop-server-init c =
    let e : c.into_iter-server-iterator.result ≡ c.args.servers = search rules in
    rw e (search rules, search rules, c.requires, roomed-first server_text _ _)

pub server_room-left-requires : goal.server_room-left-requires
server_room-left-requires c =
    good-lines _ _ (servers-first _ _ c.in-Some.ensures.steps c.loop-server.invariant.2).0

pub loop-server-preserved : goal.loop-server-preserved
loop-server-preserved c = (
  search rules,
  search rules,
  (servers-first _ _ c.in-Some.ensures.steps c.loop-server.invariant.2).1,
  roomed-turn _ c.loop-server.invariant.3 _ _ c.in-Some.ensures.steps c.spend.ensures c.server_room-left.ensures,
)

pub returns : goal.returns
unfolding servers_text
returns c =
    roomed-last _ c.loop-server.invariant.3 (rw c.in-None.is at c.next.ensures.steps).0 c.spend-2.ensures
