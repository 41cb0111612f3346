use mathlib.Core.Bool.{not}
use mathlib.Core.Path.{ap, ◌∙◌}
use borrow.Author.Rules.{rules}
use Rattle.std.specs.Prelude.{Err}
use Rattle.list_write.proofs.Answering.{server-bad, server-crowded, server-passes}
use Rattle.list_write.proofs.checking.check_server.Goals as goal

pub returns-then-not-server_good : goal.returns-then-not-server_good
returns-then-not-server_good c =
    ap (λ r. Err r) c.refuse.ensures ∙ server-bad _ _ c.server_good.ensures (ap not c.if-not-server_good.true)

pub returns-then-is_crowded : goal.returns-then-is_crowded
returns-then-is_crowded c =
    ap (λ r. Err r) c.refuse-then-is_crowded.ensures
    ∙ server-crowded _ _ c.server_good.ensures (ap not c.if-not-server_good.false) c.is_crowded.ensures c.if-is_crowded.true

pub returns : goal.returns
returns c =
    server-passes _ _ c.server_good.ensures (ap not c.if-not-server_good.false) c.is_crowded.ensures c.if-is_crowded.false
