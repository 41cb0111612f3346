-- `walk::starting::start` meets its contract.
use mathlib.Core.Path.{◌≡◌, refl}
use native.Mathlib.Omega.{arith}
use Rattle.std.specs.Prelude.{Err}
use Rattle.refusal.proofs.Passing.{goes-on, error-is, error-refuses}
use Rattle.walk.specs.Starting.{started_of}
use Rattle.walk.proofs.Accepting.{begun}
use Rattle.walk.proofs.Passed.{refused, given}
use borrow.Author.Rules.{rules}
use Rattle.walk.proofs.starting.start.Goals as goal

pub returns-in_err-start_code : goal.returns-in_err-start_code
unfolding started_of
returns-in_err-start_code c =
    let e = c.in_err-start_code.field-0.0 in
    let told : c.start_code.result ≡ Err e = search rules in
    let handed : c.from_residual.result ≡ Err e = search rules in
    rw handed
    (refused _ _ (error-is _ c.start_code.ensures told) (error-refuses _ c.start_code.ensures told))

pub begun-requires : goal.begun-requires
begun-requires c =
    let b = begun _ _ refl (goes-on _ c.start_code.ensures (search rules)) in
    omega (arith, b.whole, b.to)

pub returns : goal.returns
unfolding started_of
returns c = given _ _ (goes-on _ c.start_code.ensures (search rules)) c.begun.ensures
