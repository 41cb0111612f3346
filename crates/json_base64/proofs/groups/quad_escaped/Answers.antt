use borrow.Author.Tests.{eqb-false}
use native.Mathlib.Omega.{arith}
use Prim.Native.Nat.{◌+◌}
use Rattle.json_base64.specs.Sized.{Grouped}
use mathlib.Core.Path.{refl}
use Rattle.json_base64.proofs.Quads.{grouped, grouped-none, reads-latin, neither}
use Rattle.json_base64.proofs.groups.quad_escaped.Goals as goal

pub returns-in_err-group_of : goal.returns-in_err-group_of
returns-in_err-group_of c =
    let p = neither _ _ c.if-a-b.false in
    let q = neither _ _ p.0 in
    let r = neither _ _ q.0 in
    let g : Grouped c.args.s.now c.args.k c.group_of.result (c.args.k + 24) =
    grouped
    (reads-latin refl c.latin-a.ensures (eqb-false _ _ r.0))
    (reads-latin (omega arith) c.latin-b.ensures (eqb-false _ _ r.1))
    (reads-latin (omega arith) c.latin-c.ensures (eqb-false _ _ q.1))
    (reads-latin (omega arith) c.latin-d.ensures (eqb-false _ _ p.1))
    c.group_of.ensures in
    rw c.from_residual.ensures (grouped-none (rw c.in_err-group_of.was at g))

pub returns : goal.returns
returns c =
    let p = neither _ _ c.if-a-b.false in
    let q = neither _ _ p.0 in
    let r = neither _ _ q.0 in
    let g : Grouped c.args.s.now c.args.k c.group_of.result (c.args.k + 24) =
    grouped
    (reads-latin refl c.latin-a.ensures (eqb-false _ _ r.0))
    (reads-latin (omega arith) c.latin-b.ensures (eqb-false _ _ r.1))
    (reads-latin (omega arith) c.latin-c.ensures (eqb-false _ _ q.1))
    (reads-latin (omega arith) c.latin-d.ensures (eqb-false _ _ p.1))
    c.group_of.ensures in
    rw c.in_ok-group_of.was at g
