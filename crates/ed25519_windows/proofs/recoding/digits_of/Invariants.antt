-- `ed25519_windows::recoding::digits_of` meets its contract. The loop's invariant: the digits below bit `i`, the bits
-- from there on and the carry are the scalar.
use Prim.Native.Nat.{◌-◌}
use Rattle.digits.specs.Digits.{value}
use Rattle.ed25519_field.specs.Limbs.{radix, Digits}
use Rattle.ed25519_windows.proofs.OddDigits.{Going}
use Rattle.ed25519_windows.proofs.recoding.digits_of.Given as goal

abbrev pub invariant-loop-i : goal.invariant-loop-i
invariant-loop-i l = Going (value radix l.s) l.t l.i l.carry × Digits l.s

abbrev pub decreases-loop-i : goal.decreases-loop-i
decreases-loop-i l = 256 - l.i
