-- `clock_agreement::gathering::set_of` meets its contract.
use Rattle.std.proofs.Common.{◌≡◌, ◌<◌, refl, sym, ap, ◌∙◌, ◌^◌, arith, cond, Bool, true, false}
use Rattle.clock_agreement.specs.Many.{set_of}
use Rattle.clock_agreement.specs.Count.{span_in}
use Rattle.clock_agreement.proofs.Counts.{set-more, bit-doubled, bit-shifted}
use Rattle.clock_agreement.proofs.gathering.set_of.Goals as goal
use Rattle.clock_agreement.proofs.gathering.set_of.Goals.{then-test, else-test}

pub loop-s-init : goal.loop-s-init
unfolding set_of
loop-s-init g c = record { within = omega arith; below = omega arith; is = λ p f. refl }

pub loop-s-preserved : goal.loop-s-preserved
loop-s-preserved g c =
    let l = c.loop-s in
    let inside : l.s < 8 = omega arith in
    let two = bit-doubled l.s in
    let bit = bit-shifted l.s inside in
    elim c.if-test.branch [
      | then-test w ↦ record {
        within = omega arith;
        below = omega (arith, two, bit, w.set-is, l.invariant.below);
        is = λ p f.
            let y : p (span_in c.args.spans l.s) ≡ true = sym (f _ _ c.test.ensures) ∙ w.if-test.true in
            let z : cond (p (span_in c.args.spans l.s)) (2 ^ l.s) 0 ≡ 2 ^ l.s = ap (λ (b : Bool). cond b (2 ^ l.s) 0) y in
            set-more (λ k. p (span_in c.args.spans k)) l.s (l.invariant.is p f) (omega (arith, w.set-is, bit, z));
      }
      | else-test w ↦ record {
        within = omega arith;
        below = omega (arith, two, w.set-is, l.invariant.below);
        is = λ p f.
            let y : p (span_in c.args.spans l.s) ≡ false = sym (f _ _ c.test.ensures) ∙ w.if-test.false in
            let z : cond (p (span_in c.args.spans l.s)) (2 ^ l.s) 0 ≡ 0 = ap (λ (b : Bool). cond b (2 ^ l.s) 0) y in
            set-more (λ k. p (span_in c.args.spans k)) l.s (l.invariant.is p f) (omega (arith, w.set-is, z));
      }
    ]

pub returns : goal.returns
returns g c = λ p f.
    let e : c.loop-s.s ≡ 8 = omega arith in
    c.loop-s.invariant.is p f ∙ ap (set_of (λ s. p (span_in c.args.spans s))) e
