-- `check_response::agreement::agreement_code` meets its contract. Each return is the first refusal of the row.
use Rattle.refusal.proofs.Passing.{test-on, test-refuses, last-is}
use Rattle.check_response.specs.Check.{agreement_code}
use Rattle.check_response.proofs.agreement.agreement_code.Goals as goal

pub returns-then-version_unasked : goal.returns-then-version_unasked
unfolding agreement_code
returns-then-version_unasked c =
    test-refuses _ _ c.refuse.ensures tt c.version_unasked.ensures c.if-version_unasked.true

pub returns-then-version_downgraded : goal.returns-then-version_downgraded
unfolding agreement_code
returns-then-version_downgraded c =
    test-on _ _ c.version_unasked.ensures c.if-version_unasked.false
    (test-refuses _ _ c.refuse-then-version_downgraded.ensures tt c.version_downgraded.ensures c.if-version_downgraded.true)

pub returns-then-nonce_differs : goal.returns-then-nonce_differs
unfolding agreement_code
returns-then-nonce_differs c =
    test-on _ _ c.version_unasked.ensures c.if-version_unasked.false
    (test-on _ _ c.version_downgraded.ensures c.if-version_downgraded.false
    (test-refuses _ _ c.refuse-then-nonce_differs.ensures tt c.nonce_differs.ensures c.if-nonce_differs.true))

pub returns-then-path_misses : goal.returns-then-path_misses
unfolding agreement_code
returns-then-path_misses c =
    test-on _ _ c.version_unasked.ensures c.if-version_unasked.false
    (test-on _ _ c.version_downgraded.ensures c.if-version_downgraded.false
    (test-on _ _ c.nonce_differs.ensures c.if-nonce_differs.false
    (test-refuses _ _ c.refuse-then-path_misses.ensures tt c.path_misses.ensures c.if-path_misses.true)))

pub returns-then-time_outside : goal.returns-then-time_outside
unfolding agreement_code
returns-then-time_outside c =
    test-on _ _ c.version_unasked.ensures c.if-version_unasked.false
    (test-on _ _ c.version_downgraded.ensures c.if-version_downgraded.false
    (test-on _ _ c.nonce_differs.ensures c.if-nonce_differs.false
    (test-on _ _ c.path_misses.ensures c.if-path_misses.false
    (test-refuses _ _ c.refuse-then-time_outside.ensures tt c.time_outside.ensures c.if-time_outside.true))))

pub returns : goal.returns
unfolding agreement_code
returns c =
    test-on _ _ c.version_unasked.ensures c.if-version_unasked.false
    (test-on _ _ c.version_downgraded.ensures c.if-version_downgraded.false
    (test-on _ _ c.nonce_differs.ensures c.if-nonce_differs.false
    (test-on _ _ c.path_misses.ensures c.if-path_misses.false
    (test-on _ _ c.time_outside.ensures c.if-time_outside.false
    (last-is _ c.answers_code.ensures)))))
