use native.Mathlib.Omega.{arith}
use mathlib.Core.Path.{refl, sym, ◌∙◌, ap}
use lib.ListN.{length}
use Rattle.json_strings.proofs.Content.{content-code, content-close, content-ill, content-falls, walked-code}
use Rattle.json_strings.proofs.Content.{walked-close, walked-ill}
use Rattle.json_strings.proofs.strings.counted.Goals as goal

pub loop-j-init : goal.loop-j-init
loop-j-init c = (refl, refl, omega arith)

pub overflow_add-letters : goal.overflow_add-letters
overflow_add-letters c =
    omega (
      arith,
      c.loop-j.invariant.2,
      content-falls _ _ c.unit_of.ensures c.in-Code.is,
    )

pub loop-j-smaller : goal.loop-j-smaller
loop-j-smaller c = content-falls _ _ c.unit_of.ensures c.in-Code.is

pub loop-j-preserved : goal.loop-j-preserved
loop-j-preserved c =
    let l = c.loop-j.invariant in
    let u = c.unit_of.ensures in
    let h = c.in-Code.is in (
      walked-code _ _ u h ∙ l.0,
      omega (arith, l.1, ap length (content-code _ _ u h)),
      omega (arith, l.2, content-falls _ _ u h),
    )

pub returns-in-Close : goal.returns-in-Close
returns-in-Close c =
    let l = c.loop-j.invariant in
    let u = c.unit_of.ensures in
    let h = c.in-Close.is in record { at_value = sym l.0 ∙ walked-close _ _ u h; at_value_2 = omega (arith, l.1, ap length (content-close _ _ u h)) }

pub returns-in-Ill : goal.returns-in-Ill
returns-in-Ill c =
    let l = c.loop-j.invariant in
    let u = c.unit_of.ensures in
    let h = c.in-Ill.is in record { at_value = sym l.0 ∙ walked-ill _ _ u h; at_value_2 = omega (arith, l.1, ap length (content-ill _ _ u h)) }
