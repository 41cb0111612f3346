-- `server_response::refusing::tests_code` meets its contract. Each return is the first refusal of the row.
use mathlib.Core.Path.{◌≡◌, refl}
use Prim.Native.Nat.{◌+◌}
use Rattle.std.specs.Prelude.{Err}
use Rattle.refusal.proofs.Passing.{goes-on, passed-on, refused-by, last-is, test-on, test-refuses}
use Rattle.server_response.specs.Steps.{tests_code}
use Rattle.server_response.proofs.Certified.{certifies, path-short}
use borrow.Author.Rules.{rules}
use Rattle.server_response.proofs.refusing.tests_code.Goals as goal

pub returns-then-request_bad : goal.returns-then-request_bad
unfolding tests_code
returns-then-request_bad c = test-refuses _ _ c.refuse.ensures tt c.request_bad.ensures c.if-request_bad.true

pub returns-in_err-radius_code : goal.returns-in_err-radius_code
unfolding tests_code
returns-in_err-radius_code c =
    let e = c.in_err-radius_code.field-0.0 in
    let told : c.radius_code.result ≡ Err e = search rules in
    let handed : c.from_residual.result ≡ Err e = search rules in
    rw handed
    (test-on _ _ c.request_bad.ensures c.if-request_bad.false (refused-by _ _ c.radius_code.ensures told))

pub returns-in_err-cert_code : goal.returns-in_err-cert_code
unfolding tests_code
returns-in_err-cert_code c =
    let e = c.in_err-cert_code.field-0.0 in
    let told : c.cert_code.result ≡ Err e = search rules in
    let handed : c.from_residual-in_err-cert_code.result ≡ Err e = search rules in
    rw handed
    (test-on _ _ c.request_bad.ensures c.if-request_bad.false
    (passed-on _ _ _ c.radius_code.ensures (search rules) (refused-by _ _ c.cert_code.ensures told)))

pub returns-then-reply_misses : goal.returns-then-reply_misses
unfolding tests_code
returns-then-reply_misses c =
    test-on _ _ c.request_bad.ensures c.if-request_bad.false
    (passed-on _ _ _ c.radius_code.ensures (search rules)
    (passed-on _ _ _ c.cert_code.ensures (search rules)
    (test-refuses _ _ c.refuse-then-reply_misses.ensures tt c.reply_misses.ensures c.if-reply_misses.true)))

pub fit_code-requires : goal.fit_code-requires
fit_code-requires c = (
  certifies _ refl (goes-on _ c.cert_code.ensures (search rules)),
  path-short _ _ _ _ c.reply_misses.ensures c.if-reply_misses.false,
)

pub returns : goal.returns
unfolding tests_code
returns c =
    test-on _ _ c.request_bad.ensures c.if-request_bad.false
    (passed-on _ _ _ c.radius_code.ensures (search rules)
    (passed-on _ _ _ c.cert_code.ensures (search rules)
    (test-on _ _ c.reply_misses.ensures c.if-reply_misses.false (last-is _ c.fit_code.ensures))))
