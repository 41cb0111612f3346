use mathlib.Core.Path.{ap, ◌∙◌}
use native.Mathlib.Omega.{arith}
use borrow.Author.Rules.{rules}
use Rattle.std.specs.Prelude.{Err}
use Rattle.list_write.specs.Lending.{lent_of}
use Rattle.list_write.specs.Facts.{given_left}
use Rattle.list_write.proofs.Lends.{givens-length}
use Rattle.list_write.proofs.Answering.{sizes-none, sizes-many, sizes-crowded, sizes-pass}
use Rattle.list_write.proofs.whole.check_sizes.Goals as goal

pub returns-then-n-eq0 : goal.returns-then-n-eq0
returns-then-n-eq0 c =
    let l = givens-length (lent_of c.args.servers.left) in
    ap (λ r. Err r) c.refuse.ensures ∙ sizes-none _ (omega (arith, l))

pub returns-then-n-gt-SERVERS : goal.returns-then-n-gt-SERVERS
returns-then-n-gt-SERVERS c =
    let l = givens-length (lent_of c.args.servers.left) in
    ap (λ r. Err r) c.refuse-then-n-gt-SERVERS.ensures ∙ sizes-many _ (λ e. omega (arith, l)) (omega (arith, l))

pub returns-then-any_crowded : goal.returns-then-any_crowded
returns-then-any_crowded c =
    let l = givens-length (lent_of c.args.servers.left) in
    ap (λ r. Err r) c.refuse-then-any_crowded.ensures
    ∙ sizes-crowded _ (λ e. omega (arith, l)) (omega (arith, l)) c.any_crowded.ensures c.if-any_crowded.true

pub returns : goal.returns
returns c =
    let l = givens-length (lent_of c.args.servers.left) in
    sizes-pass _ (λ e. omega (arith, l)) (omega (arith, l)) c.any_crowded.ensures c.if-any_crowded.false
