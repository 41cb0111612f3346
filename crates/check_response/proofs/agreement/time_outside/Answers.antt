-- `check_response::agreement::time_outside` meets its contract.
use mathlib.Core.Path.{◌≡◌, sym, ap, ◌∙◌}
use mathlib.Core.Bool.{or-false}
use native.Mathlib.Omega.{arith}
use borrow.Author.Tests.{lt-ltb, le-ltb}
use Rattle.laws.specs.Any.{any}
use Rattle.laws.proofs.Any.{any_here}
use Rattle.laws.specs.Numbers.{le}
use Rattle.wire_message.specs.Tags.{MIDP, MINT, MAXT}
use Rattle.wire_message.specs.Values.{value_of}
use Rattle.wire_packet.specs.Response.{midp_in, mint_in, maxt_in}
use Rattle.check_response.specs.Check.{time_outside}
use Rattle.check_response.proofs.agreement.time_outside.Goals as goal

pub number64-midp-requires : goal.number64-midp-requires
number64-midp-requires c =
    let s = c.requires in
    rw c.value_of.ensures (s.srep-frame, omega (arith, s.midp-long))

pub number64-requires : goal.number64-requires
number64-requires c =
    let s = c.requires in
    rw c.dele_of-dele.ensures (s.dele-frame, omega (arith, s.mint-long))

pub number64-requires-2 : goal.number64-requires-2
number64-requires-2 c =
    let s = c.requires in
    rw c.dele_of-dele.ensures (s.dele-frame, omega (arith, s.maxt-long))

pub returns-then-midp-number64 : goal.returns-then-midp-number64
unfolding time_outside
returns-then-midp-number64 c =
    let b = c.args.b.now in
    let midp : c.number64-midp.result ≡ midp_in b =
    c.number64-midp.ensures ∙ ap (λ l. le 8 (value_of l MIDP) 0) c.value_of.ensures in
    let mint : c.number64.result ≡ mint_in b =
    c.number64.ensures ∙ ap (λ l. le 8 (value_of l MINT) 0) c.dele_of-dele.ensures in
    sym (any_here _ (lt-ltb (midp_in b) (mint_in b) (rw (← midp, ← mint) c.if-midp-number64.true)))

pub returns : goal.returns
unfolding time_outside any
returns c =
    let b = c.args.b.now in
    let midp : c.number64-midp.result ≡ midp_in b =
    c.number64-midp.ensures ∙ ap (λ l. le 8 (value_of l MIDP) 0) c.value_of.ensures in
    let mint : c.number64.result ≡ mint_in b =
    c.number64.ensures ∙ ap (λ l. le 8 (value_of l MINT) 0) c.dele_of-dele.ensures in
    let maxt : c.number64-2.result ≡ maxt_in b =
    c.number64-2.ensures ∙ ap (λ l. le 8 (value_of l MAXT) 0) c.dele_of-dele.ensures in
    simp (le-ltb (midp_in b) (mint_in b) (rw (← midp, ← mint) c.if-midp-number64.false), or-false) (rw (maxt, midp))
