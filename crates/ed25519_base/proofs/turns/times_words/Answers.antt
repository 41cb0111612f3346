-- `ed25519_base::turns::times_words` meets its contract.
use Rattle.std.proofs.Common.{◌≡◌, ◌+◌, ◌-◌, arith}
use Rattle.ed25519_curve.specs.Coords.{whole_of}
use Rattle.ed25519_windows.specs.Windows.{BaseRow}
use Rattle.ed25519_base.specs.Comb.{comb_of, column_of, teeth_of}
use Rattle.ed25519_base.proofs.Words.{column-low}
use Rattle.ed25519_base.proofs.Steps.{Multiple, step-first, step-next}
use Rattle.ed25519_base.proofs.turns.times_words.Goals as goal

pub loop-i-init : goal.loop-i-init
loop-i-init c =
    let g = c.args in
    let z = c.zero_flat-q.ensures in
    let low = step-first g.a g.b g.c g.d in
    low _ (omega arith) (omega arith) (omega arith) (omega arith) z.0 z.1

pub row-requires : goal.row-requires
row-requires c = (rw c.column-k.ensures (column-low _ _ _ _ _), c.requires)

pub loop-i-preserved : goal.loop-i-preserved
loop-i-preserved c =
    let l = c.loop-i in
    let g = c.args in
    let z : l.i ≡ l.i - 1 + 1 = omega arith in
    let h : Multiple (comb_of g.a g.b g.c g.d (l.i - 1 + 1)) l.q = rw z at l.invariant in
    let x : BaseRow (teeth_of (column_of g.a g.b g.c g.d (l.i - 1))) (whole_of c.row.result) =
    rw (← c.column-k.ensures) c.row.ensures in
    step-next g.a g.b g.c g.d (l.i - 1) l.q _ _ h x c.turned-q.ensures

pub returns : goal.returns
returns c =
    let l = c.loop-i in
    let e : l.i ≡ 0 = omega arith in
    let m : Multiple (comb_of _ _ _ _ 0) l.q = rw e at l.invariant in
    (m.good, m.stands)
