-- `walk::asking::ask` meets its contract.
use mathlib.Core.Path.{◌≡◌, refl}
use native.Mathlib.Omega.{arith}
use lib.ListN.{length}
use Rattle.std.specs.Prelude.{Err}
use Rattle.refusal.proofs.Passing.{goes-on, error-is, error-refuses}
use Rattle.laws.proofs.Written.{written-refused}
use Rattle.walk.specs.Asking.{asked_of}
use Rattle.walk.specs.State.{request_now}
use Rattle.walk.proofs.Accepting.{askable}
use Rattle.walk.proofs.Passed.{refused, given}
use Rattle.walk.proofs.Requests.{request-written}
use borrow.Author.Rules.{rules}
use Rattle.walk.proofs.asking.ask.Goals as goal

pub returns-in_err-ask_code-clause-value : goal.returns-in_err-ask_code-clause-value
unfolding asked_of
returns-in_err-ask_code-clause-value c =
    let e = c.in_err-ask_code.field-0.0 in
    let told : c.ask_code.result ≡ Err e = search rules in
    let handed : c.from_residual.result ≡ Err e = search rules in
    rw handed (refused _ _ (error-is _ c.ask_code.ensures told) (error-refuses _ c.ask_code.ensures told))

pub returns-in_err-ask_code-clause-out_after : goal.returns-in_err-ask_code-clause-out_after
returns-in_err-ask_code-clause-out_after c =
    let e = c.in_err-ask_code.field-0.0 in
    let told : c.ask_code.result ≡ Err e = search rules in
    let handed : c.from_residual.result ≡ Err e = search rules in
    rw handed (written-refused e.code (request_now c.args.w) c.args.out.now (error-refuses _ c.ask_code.ensures told))

pub key_of-key-requires : goal.key_of-key-requires
key_of-key-requires c = (askable _ _ refl (goes-on _ c.ask_code.ensures (search rules))).0

pub nonzero_rem-result : goal.nonzero_rem-result
nonzero_rem-result c =
    let g = (askable _ _ refl (goes-on _ c.ask_code.ensures (search rules))).0 in
    omega (arith, g.from)

pub returns-clause-value : goal.returns-clause-value
unfolding asked_of
returns-clause-value c = given _ _ (goes-on _ c.ask_code.ensures (search rules)) refl

pub returns-clause-out_after : goal.returns-clause-out_after
returns-clause-out_after c =
    let w = c.args.w in
    let o = c.args.out.now in
    let long : length w.nonce ≡ 32 = search rules in
    let room = (askable w (length o) refl (goes-on _ c.ask_code.ensures (search rules))).1 in
    request-written w o long room c.key_of-key.ensures
    (c.write_request.ensures.value, c.write_request.ensures.out_after)
