use native.Mathlib.Omega.{arith}
use Prim.Native.Nat.{◌+◌, ◌*◌}
use mathlib.Core.Path.{◌≡◌, refl}
use Rattle.json_base64.proofs.Fills.{filling-first, filling-three-fits, filling-three}
use Rattle.json_base64.proofs.Lettered.{lettered-at, grouped-letters, letters-three}
use Rattle.json_base64.proofs.decoding.put_groups.Goals as goal

pub loop-i-init : goal.loop-i-init
loop-i-init c =
    let z : c.args.at + 0 ≡ c.args.at = omega arith in
    rw z (filling-first _ _ _ c.requires.1.0 c.requires.1.1)

pub put_three-requires : goal.put_three-requires
put_three-requires c =
    let l = lettered-at c.loop-i.i c.requires.0 (omega arith) refl in
    (l, filling-three-fits c.loop-i.invariant (grouped-letters l refl) (letters-three l).is)

pub loop-i-preserved : goal.loop-i-preserved
loop-i-preserved c =
    let t = c.put_three.ensures in
    let z : c.args.at + 4 * (c.loop-i.i + 1) ≡ c.args.at + 4 * c.loop-i.i + 4 = omega arith in
    let y : 3 * (c.loop-i.i + 1) ≡ 3 * c.loop-i.i + 3 = omega arith in
    rw (z, y) (filling-three c.loop-i.invariant t.group refl t.put)
