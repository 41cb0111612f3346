-- `server_response::refusing::fit_code` meets its contract. Each return is the first refusal of the row.
use mathlib.Core.Path.{refl}
use Prim.Native.Nat.{◌+◌}
use borrow.Author.Tests.{lt-ltb, le-ltb}
use lib.ListN.{length}
use Rattle.refusal.proofs.Passing.{test-on, test-refuses, none-left}
use Rattle.server_response.specs.Steps.{fit_code}
use borrow.Author.Rules.{rules}
use Rattle.server_response.proofs.refusing.fit_code.Goals as goal

pub returns-then-midp_outside : goal.returns-then-midp_outside
unfolding fit_code
returns-then-midp_outside c =
    test-refuses _ _ c.refuse.ensures tt c.midp_outside.ensures c.if-midp_outside.true

pub returns-then-request-p : goal.returns-then-request-p
unfolding fit_code
returns-then-request-p c =
    let q = length c.args.request.now in
    let n = 264 + c.args.p + length c.args.cert.now in
    test-on _ _ c.midp_outside.ensures c.if-midp_outside.false
    (test-refuses _ _ c.refuse-then-request-p.ensures tt refl (lt-ltb q n c.if-request-p.true))

pub returns : goal.returns
unfolding fit_code
returns c =
    let q = length c.args.request.now in
    let n = 264 + c.args.p + length c.args.cert.now in
    test-on _ _ c.midp_outside.ensures c.if-midp_outside.false
    (test-on _ _ refl (le-ltb q n c.if-request-p.false) none-left)
