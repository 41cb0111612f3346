use Prim.Native.Nat.{◌-◌}
use mathlib.Core.Path.{refl, sym, ◌∙◌, ap}
use Rattle.json_strings.specs.Text.{unescaped}
use Rattle.json_strings.proofs.Content.{content-close, name-end}
use Rattle.json_strings.proofs.Runs.{unit-quoted}
use Rattle.json_strings.proofs.strings.holds.Goals as goal

pub returns-then-b-eq34 : goal.returns-then-b-eq34
returns-then-b-eq34 c =
    let s = c.args.s.now in
    let w = c.args.w.now in
    let k = c.alike-k.result in
    let q = unit-quoted s k c.byte-b.ensures c.if-b-eq34.true in
    name-end s w k (k - c.args.at) refl (content-close s k refl q)
    ∙ c.alike-k.ensures.rest

pub returns-then-is_unescaped : goal.returns-then-is_unescaped
returns-then-is_unescaped c =
    let a = c.alike-k.ensures in
    a.another (ap unescaped (sym c.byte-b.ensures) ∙ sym c.is_unescaped.ensures
    ∙ c.if-is_unescaped.true) ∙ a.rest

pub returns : goal.returns
returns c = c.holds_rest.ensures ∙ c.alike-k.ensures.rest
