use native.Mathlib.Omega.{arith}
use mathlib.Core.Path.{refl, sym, ◌∙◌}
use Rattle.json_strings.proofs.Content.{content-other, content-falls, name-more, name-differs, name-longer}
use Rattle.json_strings.proofs.Content.{name-end}
use Rattle.json_strings.proofs.strings.holds_rest.Goals as goal

pub loop-c-init : goal.loop-c-init
loop-c-init c = refl

pub returns-then-w-i : goal.returns-then-w-i
returns-then-w-i c =
    name-longer c.args.s.now
    c.args.w.now
    c.loop-c.k c.loop-c.i
    c.unit_of.ensures c.in-Code.is c.if-w-i.true
    ∙ c.loop-c.invariant

pub returns-then-c-from : goal.returns-then-c-from
returns-then-c-from c =
    name-differs
    c.args.s.now
    c.args.w.now
    c.loop-c.k
    c.loop-c.i
    c.unit_of.ensures
    c.in-Code.is (omega arith) (λ q. c.if-c-from.true (q
    ∙ sym c.from.ensures)) ∙ c.loop-c.invariant

pub loop-c-smaller : goal.loop-c-smaller
loop-c-smaller c =
    content-falls
    c.args.s.now
    c.loop-c.k
    c.unit_of.ensures
    c.in-Code.is

pub loop-c-preserved : goal.loop-c-preserved
loop-c-preserved c =
    name-more
    c.args.s.now
    c.args.w.now
    c.loop-c.k
    c.loop-c.i
    c.unit_of.ensures
    c.in-Code.is (omega arith) (c.if-c-from.false ∙ c.from.ensures)
    ∙ c.loop-c.invariant

pub returns : goal.returns
returns c =
    name-end c.args.s.now
    c.args.w.now c.loop-c.k
    c.loop-c.i c.unit_of.ensures
    (content-other c.args.s.now
    c.loop-c.k c.unit_of.ensures c.in_default.not-Code)
    ∙ c.loop-c.invariant
