-- `walk::asking::request_now` meets its contract.
use mathlib.Core.Path.{◌≡◌, ◌∙◌}
use native.Mathlib.Omega.{arith}
use lib.ListN.{length, replicate}
use Rattle.walk.proofs.Requests.{request-written, request-whole}
use borrow.Author.Rules.{rules}
use Rattle.walk.proofs.asking.request_now.Statement.{statement}
use Rattle.walk.proofs.asking.request_now.Tie as tie

long : (s : tie.Start) → length s.args.w.nonce ≡ 32
long s = search rules

returns : tie.Need-returns
returns c =
    let k = c.before.before.before.before in
    let s = k.before in
    let w = s.args.w in
    request-written w (replicate 1036 0) (long s) (omega arith) k.key_of-key.ensures c.before.write_request.ensures
    ∙ request-whole w (long s)

pub request_now_spec : {M : Type 1} → statement M
request_now_spec =
    tie.close
    (tie.spec
    (λ c κs. search rules)
    (λ c. search rules)
    (λ c κs. search rules)
    returns)
