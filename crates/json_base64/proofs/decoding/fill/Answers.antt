-- `json_base64::decoding::fill` meets its contract. What is left to write is what the characters from k on stand for;
-- as the whole string is base64, neither a part of a group nor a bad one is met.
use borrow.Author.Rules.{rules}
use mathlib.Core.Path.{ap}
use Rattle.std.specs.Prelude.{Some}
use Rattle.laws.proofs.Filled.{filled-length}
use Rattle.json_base64.proofs.Fills.{begun-filling, filling-end, filling-fewer}
use Rattle.json_base64.proofs.Fills.{filling-three-fits, filling-three, filling-two-fits, filling-two}
use Rattle.json_base64.proofs.Fills.{filling-one-fits, filling-one}
use Rattle.json_base64.proofs.Quads.{quad-over}
use Rattle.json_base64.proofs.decoding.fill.Goals as goal

-- whatever the buffer was, the writer goes on

pub put-requires : goal.put-requires
put-requires c = filling-three-fits (c.loop-quad.invariant _ (begun-filling c.requires.1 c.put_groups.ensures)) (rw c.in-Four.is at c.in-Some.ensures) (ap Some c.in-Three.is)

pub overflow_add-n : goal.overflow_add-n
overflow_add-n c =
    let f = filling-three-fits (c.loop-quad.invariant _ (begun-filling c.requires.1 c.put_groups.ensures)) (rw c.in-Four.is at c.in-Some.ensures) (ap Some c.in-Three.is) in
    let l = filled-length (c.loop-quad.invariant _ (begun-filling c.requires.1 c.put_groups.ensures)).filled in search rules

pub loop-quad-preserved : goal.loop-quad-preserved
loop-quad-preserved c =
    λ was f. filling-three (c.loop-quad.invariant was f) (rw c.in-Four.is at c.in-Some.ensures) (ap Some c.in-Three.is) c.put.ensures

pub put-requires-in-Two : goal.put-requires-in-Two
put-requires-in-Two c = filling-two-fits (c.loop-quad.invariant _ (begun-filling c.requires.1 c.put_groups.ensures)) (rw c.in-Four.is at c.in-Some.ensures) (ap Some c.in-Two.is)

pub returns-in-Two : goal.returns-in-Two
returns-in-Two c = filling-two (c.loop-quad.invariant _ (begun-filling c.requires.1 c.put_groups.ensures)) (rw c.in-Four.is at c.in-Some.ensures) (ap Some c.in-Two.is) c.put-in-Two.ensures

pub put-requires-in-One : goal.put-requires-in-One
put-requires-in-One c = filling-one-fits (c.loop-quad.invariant _ (begun-filling c.requires.1 c.put_groups.ensures)) (rw c.in-Four.is at c.in-Some.ensures) (ap Some c.in-One.is)

pub returns-in-One : goal.returns-in-One
returns-in-One c = filling-one (c.loop-quad.invariant _ (begun-filling c.requires.1 c.put_groups.ensures)) (rw c.in-Four.is at c.in-Some.ensures) (ap Some c.in-One.is) c.put-in-One.ensures

pub returns-in_default-quad : goal.returns-in_default-quad
returns-in_default-quad c = filling-end (c.loop-quad.invariant _ (begun-filling c.requires.1 c.put_groups.ensures)) (quad-over _ _ _ c.in-Some.ensures c.in_default-quad.not-Four)

pub returns : goal.returns
returns c = absurd (filling-fewer (c.loop-quad.invariant _ (begun-filling c.requires.1 c.put_groups.ensures)) (rw c.in_default.is at c.quad_of.ensures))
