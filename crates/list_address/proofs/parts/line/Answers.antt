use Prim.Native.Nat.{◌+◌, ◌<◌}
use mathlib.Core.Path.{◌∙◌, sym, refl}
use native.Mathlib.Omega.{arith}
use lib.Dec.{eqb}
use lib.ListN.{length, length-drop}
use borrow.Author.Rules.{rules}
use borrow.Author.Tests.{tests}
use Rattle.std.proofs.lemmas.Iterator.{YieldsList-from_slice}
use Rattle.std.proofs.lemmas.Iterator.Search.{position_from_yields_List}
use Rattle.list_address.proofs.Scans.{found-run, unfound-run}
use Rattle.list_address.proofs.Counts.{kept-first, kept-last, kept-wrong, kept_more}
use Rattle.list_address.proofs.Tails.{tail_all}
use Rattle.list_address.proofs.parts.line.Goals as goal

pub loop-k-init : goal.loop-k-init
loop-k-init g c = record { few = omega arith; kept = λ p t. kept-first p _ _ }

pub returns-then-not-passes : goal.returns-then-not-passes
returns-then-not-passes g c p t =
    let e = position_from_yields_List (λ b. eqb b c.args.between) _ _ c.position.result c.position.ensures.ran (YieldsList-from_slice c.loop-k.rest.now cc) (λ x b q k. search (rules, tests)) in
    let f = found-run _ _ (sym e ∙ c.in-Some.is) in
    let fails = sym (t.tells _ _ record { shown = _; shows = refl; says = record { met = c.passes.ensures } }) ∙ c.if-not-passes.true in
    kept-wrong p _ _ (c.loop-k.invariant.kept p t) f.0 f.1 fails

pub loop-k-preserved : goal.loop-k-preserved
loop-k-preserved g c =
    let e = position_from_yields_List (λ b. eqb b c.args.between) _ _ c.position.result c.position.ensures.ran (YieldsList-from_slice c.loop-k.rest.now cc) (λ x b q k. search (rules, tests)) in
    let f = found-run _ _ (sym e ∙ c.in-Some.is) in
    let h : c.in-Some.k < length c.loop-k.rest.now = f.1 in
    record {
      few = rw (tail_all (c.in-Some.k + 1) c.loop-k.rest.now, length-drop (c.in-Some.k + 1) c.loop-k.rest.now) (omega arith);
      kept = λ p t.
          let passed = sym (t.tells _ _ record { shown = _; shows = refl; says = record { met = c.passes.ensures } }) ∙ c.if-not-passes.false in
          kept_more p _ _ (c.loop-k.invariant.kept p t) f.0 f.1 (tail_all (c.in-Some.k + 1) c.loop-k.rest.now) passed;
    }

pub returns : goal.returns
returns g c p t =
    let e = position_from_yields_List (λ b. eqb b c.args.between) _ _ c.position.result c.position.ensures.ran (YieldsList-from_slice c.loop-k.rest.now cc) (λ x b q k. search (rules, tests)) in
    kept-last p _ _ (c.loop-k.invariant.kept p t) (unfound-run _ _ (sym e ∙ c.in_default.is)) (omega arith)
