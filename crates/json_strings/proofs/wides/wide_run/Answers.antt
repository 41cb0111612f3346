use borrow.Author.Rules.{rules}
use native.Mathlib.Omega.{arith}
use mathlib.Core.Path.{refl, ◌∙◌}
use Rattle.json_strings.specs.Sizes.{StepsBy}
use Rattle.json_strings.proofs.Sizes.{walked-steps}
use Rattle.json_strings.proofs.wides.wide_run.Goals as goal

pub loop-n-init : goal.loop-n-init
loop-n-init c = (refl, omega arith)

pub overflow_add-k : goal.overflow_add-k
overflow_add-k c = let f : StepsBy _ _ _ = rw c.in-Some.is at c.wide_size.ensures in let g = f.fits in search rules

pub loop-n-smaller : goal.loop-n-smaller
loop-n-smaller c =
    let f : StepsBy _ _ _ = rw c.in-Some.is at c.wide_size.ensures in omega (arith, f.fits, f.takes)

pub loop-n-preserved : goal.loop-n-preserved
loop-n-preserved c =
    let f : StepsBy _ _ _ = rw c.in-Some.is at c.wide_size.ensures in
    (walked-steps f ∙ c.loop-n.invariant.0, omega (arith, c.loop-n.invariant.1))
