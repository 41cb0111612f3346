-- `server_response::refusing::midp_outside` meets its contract.
use mathlib.Core.Path.{◌≡◌, sym, ap, ◌∙◌}
use native.Mathlib.Omega.{arith}
use mathlib.Core.Bool.{or-false}
use borrow.Author.Tests.{lt-ltb, le-ltb}
use Rattle.laws.specs.Any.{any}
use Rattle.laws.proofs.Any.{any_here}
use Rattle.laws.specs.Numbers.{le}
use Rattle.wire_message.specs.Tags.{MINT, MAXT}
use Rattle.wire_message.specs.Values.{value_of}
use Rattle.server_response.specs.Refusing.{mint_of, maxt_of, midp_outside}
use borrow.Author.Rules.{rules}
use Rattle.server_response.proofs.refusing.midp_outside.Goals as goal

pub number64-requires : goal.number64-requires
number64-requires c =
    let s = c.requires in
    rw c.value_of-dele.ensures (s.dele-frame, omega (arith, s.mint-long))

pub returns-then-midp-number64 : goal.returns-then-midp-number64
unfolding midp_outside
returns-then-midp-number64 c =
    let a = c.args in
    let mint : c.number64.result ≡ mint_of a.cert.now =
    c.number64.ensures ∙ ap (λ l. le 8 (value_of l MINT) 0) c.value_of-dele.ensures in
    sym (any_here _ (lt-ltb a.midp (mint_of a.cert.now) (rw (← mint) c.if-midp-number64.true)))

pub number64-requires-2 : goal.number64-requires-2
number64-requires-2 c =
    let s = c.requires in
    rw c.value_of-dele.ensures (s.dele-frame, omega (arith, s.maxt-long))

pub returns : goal.returns
unfolding midp_outside any
returns c =
    let a = c.args in
    let mint : c.number64.result ≡ mint_of a.cert.now =
    c.number64.ensures ∙ ap (λ l. le 8 (value_of l MINT) 0) c.value_of-dele.ensures in
    let maxt : c.number64-2.result ≡ maxt_of a.cert.now =
    c.number64-2.ensures ∙ ap (λ l. le 8 (value_of l MAXT) 0) c.value_of-dele.ensures in
    simp (le-ltb a.midp (mint_of a.cert.now) (rw (← mint) c.if-midp-number64.false), or-false) (rw maxt)
