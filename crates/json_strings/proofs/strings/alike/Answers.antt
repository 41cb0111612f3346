use borrow.Author.Rules.{rules}
use native.Mathlib.Omega.{arith}
use Prim.Native.Nat.{◌+◌, ◌-◌}
use mathlib.Core.Path.{◌≡◌, refl, sym, ◌∙◌, ap}
use mathlib.Core.Bool.{true, true≢false}
use lib.ListN.{get_or}
use Rattle.json_strings.specs.Text.{unescaped}
use Rattle.json_strings.proofs.Content.{name-more, name-differs, name-longer}
use Rattle.json_strings.proofs.Runs.{unit-unescaped, run_inside}
use Rattle.json_strings.proofs.strings.alike.Goals as goal

pub loop-x-init : goal.loop-x-init
loop-x-init c =
    let z : c.args.at - c.args.at ≡ 0 = omega arith in (rw z refl, omega arith)

pub returns-then-b-x : goal.returns-then-b-x
returns-then-b-x c =
    let s = c.args.s.now in
    let w = c.args.w.now in
    let l = c.loop-x in
    let at = c.args.at in
    let b = c.byte-b.ensures in
    let q : l.k - at ≡ l.x-index = omega (arith, l.invariant.1) in record {
      rest = l.invariant.0;
      on = omega (arith, l.invariant.1);
      another = λ u. rw q (name-differs s w l.k l.x-index refl (unit-unescaped s l.k u) (omega arith)
          (λ h. c.if-b-x.true (b ∙ h)));
    }

pub returns-then-not-is_unescaped : goal.returns-then-not-is_unescaped
returns-then-not-is_unescaped c =
    let l = c.loop-x.invariant in
    let b = c.byte-b.ensures in record {
      rest = l.0;
      on = omega (arith, l.1);
      another = λ u. absurd (true≢false (sym u ∙ ap unescaped (sym b) ∙ sym c.is_unescaped.ensures
          ∙ c.if-not-is_unescaped.true));
    }

pub overflow_add-k : goal.overflow_add-k
overflow_add-k c =
    let s = c.args.s.now in
    let i =
    run_inside s c.loop-x.k
    c.byte-b.ensures c.is_unescaped.ensures c.if-not-is_unescaped.false in
    search rules

pub loop-x-preserved : goal.loop-x-preserved
loop-x-preserved c =
    let s = c.args.s.now in
    let w = c.args.w.now in
    let l = c.loop-x in
    let at = c.args.at in
    let b = c.byte-b.ensures in
    let u : unescaped (get_or s l.k 0) ≡ true = ap unescaped (sym b) ∙ sym c.is_unescaped.ensures
    ∙ c.if-not-is_unescaped.false in
    let p : l.k + 1 - at ≡ l.x-index + 1 = omega (arith, l.invariant.1) in
    let q : l.k - at ≡ l.x-index = omega (arith, l.invariant.1) in (
      rw p (name-more s w l.k l.x-index refl (unit-unescaped s l.k u) (omega arith)
          (sym b ∙ c.if-b-x.false) ∙ rw q at l.invariant.0),
      omega (arith, l.invariant.1),
    )

pub returns : goal.returns
returns c =
    let s = c.args.s.now in
    let w = c.args.w.now in
    let l = c.loop-x in
    let at = c.args.at in
    let q : l.k - at ≡ l.x-index = omega (arith, l.invariant.1) in record {
      rest = l.invariant.0;
      on = omega (arith, l.invariant.1);
      another = λ u. rw q (name-longer s w l.k l.x-index refl (unit-unescaped s l.k u) (omega arith));
    }
