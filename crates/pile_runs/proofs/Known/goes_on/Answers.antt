-- `pile_runs::Known::goes_on` meets its contract.
use mathlib.Core.Path.{◌≡◌, refl, sym, ap, ap₂, ◌∙◌}
use mathlib.Core.Bool.{◌&&◌}
use native.Mathlib.Omega.{arith}
use Rattle.pile_runs.specs.Clash.{valid}
use Rattle.pile_runs.specs.Convict.{verdict_in, flag_in}
use Rattle.pile_runs.proofs.Past.{reads}
use Rattle.pile_runs.proofs.Known.goes_on.Goals as goal

pub returns-then-is_ok : goal.returns-then-is_ok
returns-then-is_ok c =
    let k = c.args.k in
    let here = c.is_ok.ensures.value ∙ ap valid (reads c.args.self.now.verdicts k _ (omega arith)) in
    ap (λ t. t && flag_in c.args.self.now.linked k) (sym c.if-is_ok.true ∙ here)

pub returns-else-is_ok : goal.returns-else-is_ok
returns-else-is_ok c =
    let k = c.args.k in
    let here = c.is_ok.ensures.value ∙ ap valid (reads c.args.self.now.verdicts k _ (omega arith)) in
    c.if-is_ok.false ∙ ap (λ t. t && flag_in c.args.self.now.linked k) (sym c.if-is_ok.false ∙ here)
