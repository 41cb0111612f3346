-- `ed25519_windows::multiples::multiples` meets its contract.
use Prim.Native.Nat.{ℕ, ◌+◌, ◌*◌, ◌-◌}
use mathlib.Core.Path.{◌≡◌, refl}
use native.Mathlib.Omega.{arith}
use Rattle.ed25519_windows.proofs.Tables.{Fold, fold-first, fold-sum, itself, multiple, first-row, next_row}
use Rattle.ed25519_windows.proofs.multiples.multiples.Goals as goal

pub loop-i-init : goal.loop-i-init
loop-i-init c =
    let z = c.zero_point in
    let s1 = c.summed in
    let q1 = c.with_t-q in
    let s2 = c.summed-2 in
    let q2 = c.with_t in
    let r = c.args.r in
    let one = itself r c.requires in
    let f1 = fold-sum r z.result q1.result r s1.result 0 1 1 (fold-first r z.result z.ensures.0) one
    s1.ensures.0 q1.ensures.0 refl in
    let f2 = fold-sum r q1.result q2.result r s2.result 1 1 2 f1 one s2.ensures.0 q2.ensures.0
    refl in (
      q1.ensures.1,
      f1,
      first-row r _ refl refl c.requires,
      multiple r q2.result c.row_of-two.result 2 c.row_of-two.ensures f2,
    )

pub loop-i-preserved : goal.loop-i-preserved
loop-i-preserved c =
    let l = c.loop-i in
    let v = l.invariant in
    let r = c.args.r in
    let two = c.row_of-two.result in
    let n = c.with_t-n in
    let s = c.summed-in-loop-i in
    let f : (k : ℕ) → k ≡ 2 * l.i - 1 + 2 → Fold r n.result k =
    λ k. fold-sum r l.q n.result two s.result (2 * l.i - 1) 2 k v.1 v.3 s.ensures.0
    n.ensures.0 in (
      n.ensures.1,
      f _ (omega arith),
      next_row r c.row_of.result l.t l.i c.loop-i-test.true v.2
          (multiple r n.result c.row_of.result (2 * l.i + 1) c.row_of.ensures (f _ (omega arith))),
      v.3,
    )
