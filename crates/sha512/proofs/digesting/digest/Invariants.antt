-- `sha512::digesting::digest` meets its contract. The loop keeps: the bytes so far are the digest of the words so far.
use Rattle.std.proofs.Common.{◌≡◌, ◌*◌, length, take}
use Rattle.sha512.specs.Computation.{digest}
use Rattle.sha512.proofs.digesting.digest.Given as goal

abbrev pub invariant-loop-i : goal.invariant-loop-i
invariant-loop-i l = (length l.d ≡ 64) × (take (8 * l.i) l.d ≡ digest (take l.i l.fn.h))
