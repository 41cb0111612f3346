-- `base64_strict::encoding::encode` meets its contract: what is left to write is the encoding of the bytes that are left.
use borrow.Author.Rules.{rules}
use native.Mathlib.Omega.{arith}
use Rattle.laws.proofs.Filled.{filled-first, filled-length, filled-last}
use Rattle.base64_strict.proofs.Encodes.{three-fits, three-next, two_fits, two-next, one-fits, one-next, none_left, tail-of}
use Rattle.base64_strict.proofs.encoding.encode.Goals as goal

pub loop-rest-init : goal.loop-rest-init
loop-rest-init c = filled-first _ _ c.requires

pub put-requires : goal.put-requires
put-requires c = rw c.encode_three-four.ensures (three-fits c.loop-rest.rest.now 0 c.loop-rest.invariant (omega arith))

pub overflow_add-at : goal.overflow_add-at
overflow_add-at c =
    let f = three-fits c.loop-rest.rest.now 0 c.loop-rest.invariant (omega arith) in
    let g = filled-length c.loop-rest.invariant in search rules

pub loop-rest-preserved : goal.loop-rest-preserved
loop-rest-preserved c =
    rw (tail-of c.loop-rest.rest.now 3) (three-next c.loop-rest.rest.now 0 c.loop-rest.invariant (omega arith) (rw c.encode_three-four.ensures at c.put.ensures))

pub put-requires-in-len1 : goal.put-requires-in-len1
put-requires-in-len1 c =
    rw c.encode_one-four.ensures (one-fits c.loop-rest.rest.now 0 c.loop-rest.invariant (omega arith))

pub put-requires-in-len2-up : goal.put-requires-in-len2-up
put-requires-in-len2-up c =
    rw c.encode_two-four.ensures (two_fits c.loop-rest.rest.now 0 c.loop-rest.invariant (omega arith))

pub returns-in-empty : goal.returns-in-empty
returns-in-empty c = filled-last (none_left c.loop-rest.rest.now 0 c.loop-rest.invariant (omega arith))

pub returns-in-len1 : goal.returns-in-len1
returns-in-len1 c = filled-last (one-next c.loop-rest.rest.now 0 c.loop-rest.invariant (omega arith) (rw c.encode_one-four.ensures at c.put-in-len1.ensures))

pub returns-in-len2-up : goal.returns-in-len2-up
returns-in-len2-up c = filled-last (two-next c.loop-rest.rest.now 0 c.loop-rest.invariant (omega arith) (rw c.encode_two-four.ensures at c.put-in-len2-up.ensures))
