-- `pile::linking::follows_on` meets its contract.
use mathlib.Core.Path.{sym, ◌∙◌}
use Rattle.pile.specs.Links.{follows}
use Rattle.pile.proofs.Reaching.{within-reach}
use Rattle.pile.proofs.linking.follows_on.Goals as goal

pub returns-then-out_of_reach : goal.returns-then-out_of_reach
unfolding follows
returns-then-out_of_reach c = rw (sym c.out_of_reach.ensures ∙ c.if-out_of_reach.true)

pub nonce_links-requires : goal.nonce_links-requires
nonce_links-requires c =
    within-reach _ _ c.args.b.now.long c.args.r.now.long c.out_of_reach.ensures c.if-out_of_reach.false

pub returns : goal.returns
unfolding follows
returns c =
    rw (sym c.out_of_reach.ensures ∙ c.if-out_of_reach.false) c.nonce_links.ensures
