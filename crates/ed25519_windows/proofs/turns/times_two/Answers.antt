-- `ed25519_windows::turns::times_two` meets its contract. The loop's invariant: the digits of both scalars from `i` on
-- are in.
use Prim.Native.Nat.{◌-◌}
use mathlib.Core.Path.{◌≡◌}
use native.Mathlib.Omega.{arith}
use Rattle.ed25519_windows.proofs.Pairs.{Sum, sum_first, turn-without, turn-with, sum-turn, sum-last}
use Rattle.ed25519_windows.proofs.turns.times_two.Goals as goal

pub loop-i-init : goal.loop-i-init
loop-i-init c =
    let t = c.top-i.ensures in
    let z = c.zero_flat-q.ensures in
    sum_first _ _ _ _ _ t.0 t.1 z.0 z.1

pub loop-i-preserved-then-c-eq0 : goal.loop-i-preserved-then-c-eq0
loop-i-preserved-then-c-eq0 c =
    let r = c.without_t-q in
    let n = c.with_base-m in
    let m = c.twice in
    let l = c.loop-i in
    sum-turn _ _ _ _ _ l.i (l.i - 1) l.q _ c.digits_of-d.ensures c.digits_of-e.ensures (omega arith)
    (omega arith) l.invariant r.ensures.1
    (turn-without c.multiples-v.result _ _ l.q _ m.result n.result m.ensures
    n.ensures r.ensures.0 c.if-c-eq0.true)

pub loop-i-preserved : goal.loop-i-preserved
loop-i-preserved c =
    let r = c.without_t-q-else-c-eq0 in
    let o = c.with_row in
    let n = c.with_base-m in
    let m = c.twice in
    let l = c.loop-i in
    sum-turn _ _ _ _ _ l.i (l.i - 1) l.q _ c.digits_of-d.ensures c.digits_of-e.ensures (omega arith)
    (omega arith) l.invariant r.ensures.1
    (turn-with c.multiples-v.result _ _ l.q _ m.result n.result m.ensures
    n.ensures o.result o.ensures r.ensures.0 (c.digits_of-e.ensures.odd _ c.if-c-eq0.false))

pub returns : goal.returns
returns c =
    let l = c.loop-i in
    let e : l.i ≡ 0 = omega arith in
    let s : Sum _ _ _ 0 l.q = rw e at l.invariant in
    sum-last _ _ _ _ _ _ l.q c.multiples-v.ensures c.digits_of-d.ensures c.digits_of-e.ensures s
