-- `server_batch::refusing::keys_code` meets its contract. Each return is the first refusal of the row.
use mathlib.Core.Path.{◌≡◌, refl}
use Rattle.std.specs.Prelude.{Err}
use Rattle.refusal.proofs.Passing.{goes-on, passed-on, refused-by, test-on, test-refuses, none-left}
use Rattle.server_response.proofs.Certified.{certifies}
use Rattle.server_batch.specs.Answering.{keys_code}
use borrow.Author.Rules.{rules}
use Rattle.server_batch.proofs.refusing.keys_code.Goals as goal

pub returns-in_err-radius_code : goal.returns-in_err-radius_code
unfolding keys_code
returns-in_err-radius_code c =
    let e = c.in_err-radius_code.field-0.0 in
    let told : c.radius_code.result ≡ Err e = search rules in
    let handed : c.from_residual.result ≡ Err e = search rules in
    rw handed (refused-by _ _ c.radius_code.ensures told)

pub returns-in_err-cert_code : goal.returns-in_err-cert_code
unfolding keys_code
returns-in_err-cert_code c =
    let e = c.in_err-cert_code.field-0.0 in
    let told : c.cert_code.result ≡ Err e = search rules in
    let handed : c.from_residual-in_err-cert_code.result ≡ Err e = search rules in
    rw handed
    (passed-on _ _ _ c.radius_code.ensures (search rules) (refused-by _ _ c.cert_code.ensures told))

pub other_key-requires : goal.other_key-requires
other_key-requires c = certifies _ refl (goes-on _ c.cert_code.ensures (search rules))

pub returns-then-other_key : goal.returns-then-other_key
unfolding keys_code
returns-then-other_key c =
    passed-on _ _ _ c.radius_code.ensures (search rules)
    (passed-on _ _ _ c.cert_code.ensures (search rules)
    (test-refuses _ _ c.refuse.ensures tt c.other_key.ensures c.if-other_key.true))

pub midp_outside-requires : goal.midp_outside-requires
midp_outside-requires c = certifies _ refl (goes-on _ c.cert_code.ensures (search rules))

pub returns-then-midp_outside : goal.returns-then-midp_outside
unfolding keys_code
returns-then-midp_outside c =
    passed-on _ _ _ c.radius_code.ensures (search rules)
    (passed-on _ _ _ c.cert_code.ensures (search rules)
    (test-on _ _ c.other_key.ensures c.if-other_key.false
    (test-refuses _ _ c.refuse-then-midp_outside.ensures tt c.midp_outside.ensures c.if-midp_outside.true)))

pub returns : goal.returns
unfolding keys_code
returns c =
    passed-on _ _ _ c.radius_code.ensures (search rules)
    (passed-on _ _ _ c.cert_code.ensures (search rules)
    (test-on _ _ c.other_key.ensures c.if-other_key.false
    (test-on _ _ c.midp_outside.ensures c.if-midp_outside.false none-left)))
