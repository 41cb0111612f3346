use mathlib.Core.Path.{◌≡◌}
use native.Mathlib.Omega.{arith}
use borrow.Author.Rules.{rules}
use Rattle.list_write.specs.Texts.{server_text, servers_text}
use Rattle.list_write.proofs.Arrays.{rowing-first, rowing-length, rowing-mark, rowing-item, rowing-turn, rowing-close, rowing-done}
use Rattle.list_write.proofs.Lends.{servers-first, good-lines}
use Rattle.list_write.proofs.many.put_servers.Goals as goal

pub loop-server-init : goal.loop-server-init
unfolding servers_text
loop-server-init c =
    let e : c.into_iter-server-iterator.result ≡ c.args.servers = search rules in
    rw e (search rules, search rules, c.requires.good, rowing-first server_text _ _ _ c.requires.room)

pub put_word-a-requires : goal.put_word-a-requires
put_word-a-requires c = rowing-mark _ c.loop-server.invariant.3 _ _ c.in-Some.ensures.steps

pub put_server-j-requires : goal.put_server-j-requires
put_server-j-requires c = (
  good-lines _ _ (servers-first _ _ c.in-Some.ensures.steps c.loop-server.invariant.2).0,
  rowing-item _ c.loop-server.invariant.3 _ _ c.in-Some.ensures.steps c.put_word-a.ensures,
)

pub loop-server-preserved : goal.loop-server-preserved
loop-server-preserved c = (
  search rules,
  search rules,
  (servers-first _ _ c.in-Some.ensures.steps c.loop-server.invariant.2).1,
  rowing-turn _ c.loop-server.invariant.3 _ _ c.in-Some.ensures.steps c.put_word-a.ensures c.put_server-j.ensures,
)

pub put_byte-requires : goal.put_byte-requires
put_byte-requires c = rowing-close _ c.loop-server.invariant.3 (rw c.in-None.is at c.next.ensures.steps).0

pub shape_of-out : goal.shape_of-out
shape_of-out c = omega (arith, rowing-length _ c.loop-server.invariant.3)

pub returns : goal.returns
unfolding servers_text
returns c =
    rowing-done _ c.loop-server.invariant.3 (rw c.in-None.is at c.next.ensures.steps).0 c.put_byte.ensures
