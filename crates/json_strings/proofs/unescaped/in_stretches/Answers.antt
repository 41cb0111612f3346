use native.Mathlib.Omega.{arith}
use mathlib.Core.Path.{refl, ◌∙◌}
use Rattle.json_strings.specs.Text.{unescaped}
use Rattle.json_tokens.proofs.Counted.{while-over}
use Rattle.json_strings.proofs.unescaped.in_stretches.Goals as goal

pub loop-k-init : goal.loop-k-init
loop-k-init c = refl

pub returns-then-not-stretch : goal.returns-then-not-stretch
returns-then-not-stretch c = c.singly-then-not-stretch.ensures ∙ c.loop-k.invariant

pub loop-k-preserved : goal.loop-k-preserved
loop-k-preserved c =
    while-over unescaped _ _ 64 (omega arith) (c.stretch.ensures c.if-not-stretch.false)
    ∙ c.loop-k.invariant

pub returns : goal.returns
returns c = c.singly-2.ensures ∙ c.loop-k.invariant
