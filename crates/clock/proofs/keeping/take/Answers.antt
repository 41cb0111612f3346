-- `clock::keeping::take` meets its contract.
use mathlib.Core.Path.{◌≡◌}
use Rattle.std.specs.Prelude.{Err}
use Rattle.refusal.proofs.Passing.{goes-on, error-is, error-refuses}
use Rattle.clock.specs.State.{taken_of}
use Rattle.clock.proofs.Takes.{refused, given, takeable}
use borrow.Author.Rules.{rules}
use Rattle.clock.proofs.keeping.take.Goals as goal

pub returns-in_err-take_code : goal.returns-in_err-take_code
unfolding taken_of
returns-in_err-take_code c =
    let e = c.in_err-take_code.field-0.0 in
    let told : c.take_code.result ≡ Err e = search rules in
    let handed : c.from_residual.result ≡ Err e = search rules in
    rw handed
    (refused _ (error-is _ c.take_code.ensures told) (error-refuses _ c.take_code.ensures told))

pub keeping-requires : goal.keeping-requires
keeping-requires c = (takeable _ _ _ (goes-on _ c.take_code.ensures (search rules))).one

pub returns : goal.returns
unfolding taken_of
returns c = given _ (goes-on _ c.take_code.ensures (search rules)) c.keeping.ensures
