-- `walk::recording::heading` meets its contract.
use mathlib.Core.Path.{◌≡◌, refl, ap, ◌∙◌}
use mathlib.Core.List.{◌++◌}
use Prim.Native.Nat.{ℕ}
use native.Mathlib.Omega.{arith}
use lib.ListN.{length, drop, replicate, length-append}
use Rattle.laws.specs.Numbers.{le_bytes}
use Rattle.laws.specs.Pasted.{pasted}
use Rattle.laws.proofs.Written.{puts_one, puts-put, written-whole}
use Rattle.pile.specs.Layout.{REQUEST-LENGTH, RESPONSE-LENGTH, ZEROS, REQUEST}
use Rattle.pile.specs.Recording.{head_bytes}
use Rattle.walk.specs.State.{ASKED}
use Rattle.walk.proofs.recording.heading.Goals as goal

pub returns : goal.returns
unfolding head_bytes le_bytes
returns c =
    let key = c.args.key in
    let rand = c.args.rand in
    let n = c.args.n in
    let k32 : length key ≡ 32 = omega (arith, c.well_formed) in
    let r32 : length rand ≡ 32 = omega (arith, c.well_formed) in
    let w1 = puts_one key 32 c.put.ensures (omega arith) (omega arith) in
    let w2 = puts-put rand REQUEST-LENGTH w1 c.put-2.ensures (omega arith) (omega arith) in
    let asked = c.put-3.ensures ∙ ap (pasted _ REQUEST-LENGTH) c.le32_bytes-q.ensures in
    let w3 = puts-put (le_bytes 4 ASKED) RESPONSE-LENGTH w2 asked refl (omega arith) in
    let counted = c.put-4.ensures ∙ ap (pasted _ RESPONSE-LENGTH) c.le32_bytes-m.ensures in
    let w4 = puts-put (le_bytes 4 n) ZEROS w3 counted refl (omega arith) in
    let all = key ++ rand ++ le_bytes 4 ASKED ++ le_bytes 4 n in
    let l : length all ≡ ZEROS = simp (length-append, k32, r32) in
    written-whole w4 ∙ ap (λ (m : ℕ). all ++ drop m (replicate REQUEST 0)) l
