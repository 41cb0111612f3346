use native.Mathlib.Omega.{arith}
use Prim.Native.Nat.{◌+◌}
use Rattle.json_base64.specs.Sized.{Grouped}
use mathlib.Core.Path.{refl, sym, ◌∙◌}
use Rattle.laws.proofs.Holds.{both}
use Rattle.json_base64.proofs.Quads.{grouped, grouped-none}
use Rattle.json_base64.proofs.Lettered.{reads-unescaped}
use Rattle.json_base64.proofs.groups.quad_plain.Goals as goal

pub returns-in_err-g : goal.returns-in_err-g
returns-in_err-g c =
    let p = both _ _ c.if-is_unescaped.true in
    let q = both _ _ p.0 in
    let r = both _ _ q.0 in
    let g : Grouped c.args.s.now c.args.k c.group_of.result (c.args.k + 4) =
    grouped
    (reads-unescaped refl c.byte-a.ensures (sym c.is_unescaped.ensures ∙ r.0))
    (reads-unescaped (omega arith) c.byte-b.ensures (sym c.is_unescaped-2.ensures ∙ r.1))
    (reads-unescaped (omega arith) c.byte-c.ensures (sym c.is_unescaped-3.ensures ∙ q.1))
    (reads-unescaped (omega arith) c.byte-d.ensures (sym c.is_unescaped-4.ensures ∙ p.1))
    c.group_of.ensures in
    rw c.from_residual.ensures (grouped-none (rw c.in_err-g.was at g))

pub returns-then-is_unescaped : goal.returns-then-is_unescaped
returns-then-is_unescaped c =
    let p = both _ _ c.if-is_unescaped.true in
    let q = both _ _ p.0 in
    let r = both _ _ q.0 in
    let g : Grouped c.args.s.now c.args.k c.group_of.result (c.args.k + 4) =
    grouped
    (reads-unescaped refl c.byte-a.ensures (sym c.is_unescaped.ensures ∙ r.0))
    (reads-unescaped (omega arith) c.byte-b.ensures (sym c.is_unescaped-2.ensures ∙ r.1))
    (reads-unescaped (omega arith) c.byte-c.ensures (sym c.is_unescaped-3.ensures ∙ q.1))
    (reads-unescaped (omega arith) c.byte-d.ensures (sym c.is_unescaped-4.ensures ∙ p.1))
    c.group_of.ensures in
    rw c.in_ok-g.was at g
