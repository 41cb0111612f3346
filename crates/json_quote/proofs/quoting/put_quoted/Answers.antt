-- `json_quote::quoting::put_quoted` meets its contract: what is left is the string of the octets from i on.
use borrow.Author.Rules.{rules}
use native.Mathlib.Omega.{arith}
use Rattle.json_quote.proofs.Putting.{putting-length}
use Rattle.json_quote.proofs.Quotes.{octet-room, octet-next, quote-fits, quote-first, quote-room, quote-last}
use Rattle.json_quote.proofs.quoting.put_quoted.Goals as goal

pub put-requires : goal.put-requires
put-requires c = quote-fits c.args.x.now c.args.out.now c.args.at c.requires

pub overflow_add-k : goal.overflow_add-k
overflow_add-k c = let h = quote-fits c.args.x.now c.args.out.now c.args.at c.requires in search rules

pub loop-b-init : goal.loop-b-init
loop-b-init c = quote-first c.args.x.now c.args.out.now c.args.at c.requires c.put.ensures

pub put_octet-k-requires : goal.put_octet-k-requires
put_octet-k-requires c = octet-room c.args.x.now c.loop-b.b-index c.loop-b.invariant c.loop-b-test.true

pub loop-b-preserved : goal.loop-b-preserved
loop-b-preserved c =
    octet-next c.args.x.now c.loop-b.b-index c.loop-b.invariant c.loop-b-test.true
    c.put_octet-k.ensures

pub put-requires-2 : goal.put-requires-2
put-requires-2 c =
    let a = c.args in
    quote-room a.x.now a.out.now a.at c.requires c.put.ensures c.loop-b.invariant
    c.loop-b-test.false

pub overflow_add-result : goal.overflow_add-result
overflow_add-result c =
    let a = c.args in
    let h = quote-room a.x.now a.out.now a.at c.requires c.put.ensures c.loop-b.invariant
    c.loop-b-test.false in
    let l = putting-length c.loop-b.invariant in search rules

pub shape_of-out : goal.shape_of-out
shape_of-out c = omega (arith, putting-length c.loop-b.invariant)

pub returns : goal.returns
returns c =
    let a = c.args in
    quote-last a.x.now a.out.now a.at c.requires c.put.ensures c.loop-b.invariant
    c.loop-b-test.false c.put-2.ensures
