use mathlib.Core.Bool.{not}
use mathlib.Core.Path.{ap, ◌∙◌}
use Rattle.std.specs.Prelude.{Err}
use Rattle.list_write.proofs.Answering.{list-bad, list-sizes}
use Rattle.list_write.proofs.whole.check_list.Goals as goal

pub returns-then-not-list_good : goal.returns-then-not-list_good
returns-then-not-list_good c =
    ap (λ r. Err r) c.refuse.ensures
    ∙ list-bad _ _ _ c.args.list.servers.whole c.list_good.ensures (ap not c.if-not-list_good.true)

pub returns : goal.returns
returns c =
    list-sizes _ _ _ c.args.list.servers.whole c.list_good.ensures (ap not c.if-not-list_good.false) c.check_sizes.ensures
