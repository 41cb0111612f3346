-- `ed25519_windows::recoding::digits_of` meets its contract. The loop's invariant: the digits below bit `i`, the bits
-- from there on and the carry are the scalar.
use Prim.Native.Nat.{◌+◌}
use mathlib.Core.Path.{◌≡◌, ap}
use native.Mathlib.Omega.{arith}
use borrow.Author.Rules.{rules}
use lib.ListN.{length}
use Rattle.ed25519_windows.proofs.OddDigits.{going-first, going-skip, going-plus, going_less, going-last}
use Rattle.ed25519_windows.proofs.recoding.digits_of.Goals.{then-w-lt16, else-w-lt16}
use Rattle.ed25519_windows.proofs.recoding.digits_of.Goals as goal

pub loop-i-init : goal.loop-i-init
loop-i-init c = (going-first _, c.requires)

pub loop-i-preserved-then-bit-carry : goal.loop-i-preserved-then-bit-carry
loop-i-preserved-then-bit-carry c =
    let v = c.loop-i.invariant in
    (going-skip _ _ _ _ _ v.0 c.bit.ensures c.if-bit-carry.true, v.1)

pub five_bits-requires : goal.five_bits-requires
five_bits-requires c = (c.loop-i-test.true, c.loop-i.invariant.1)

pub overflow_add-w : goal.overflow_add-w
overflow_add-w c = omega (arith, c.five_bits.ensures, c.loop-i.invariant.0.low)

pub overflow_sub-t : goal.overflow_sub-t
overflow_sub-t c = omega (arith, c.five_bits.ensures, c.loop-i.invariant.0.low)

pub loop-i-preserved : goal.loop-i-preserved
loop-i-preserved c =
    let l = c.loop-i in
    let h = c.loop-i-test.true in
    let b = c.bit in
    let n = c.if-bit-carry.false in
    let e = ap (λ k. k + l.carry) c.five_bits.ensures in (
      elim c.if-w-lt16.branch [
        | then-w-lt16 w ↦
            rw (w.t-is, w.carry-is) (going-plus _ _ _ _ _ _ l.invariant.0 h b.ensures n e w.if-w-lt16.true)
        | else-w-lt16 w ↦
            rw (w.t-is, w.carry-is) (going_less _ _ _ _ _ _ l.invariant.0 h b.ensures n e w.if-w-lt16.false)
      ],
      l.invariant.1,
    )

pub returns : goal.returns
returns c =
    let l = c.loop-i in
    let a = c.args in
    let h : length a.s ≡ 5 = search rules in
    going-last a.s l.t l.i l.carry h l.invariant.1 l.invariant.0 c.loop-i-test.false

pub bit-requires : goal.bit-requires
bit-requires c = c.loop-i.invariant.1

pub overflow_cast-t-else-w-lt16 : goal.overflow_cast-t-else-w-lt16
overflow_cast-t-else-w-lt16 c = omega arith
