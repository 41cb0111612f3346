-- `ed25519::verifying::check` meets its contract.
use Rattle.std.proofs.Common.{◌≡◌, ◌++◌, length, refl, sym, ◌∙◌, rules}
use Rattle.digits.proofs.Numbers.{le-bytes}
use Rattle.ed25519.proofs.Ways.{check-low, check-high, below_each, hash-each, decoded-itself}
use Rattle.ed25519.proofs.verifying.check.Goals as goal

pub group_equation-requires : goal.group_equation-requires
group_equation-requires c =
    let g = c.args in
    let h = c.hash.ensures in
    let s = c.limbs_of.ensures in
    let a = c.in-Some.ensures in
    let q = c.in-Some-decode.ensures in (
      a.1,
      q.1,
      decoded-itself _ _ a.0 refl,
      decoded-itself _ _ q.0 refl,
      s.1,
      h.1,
      below_each _ _ _ s.1 s.0 c.below_order.ensures c.if-below_order.true,
      hash-each _ g.r.now g.key.now (g.context.now ++ g.text.now) h.1 h.0,
    )

pub returns-then-below_order : goal.returns-then-below_order
returns-then-below_order c =
    let g = c.args in
    let long : length g.s.now ≡ 32 = search rules in
    check-low g.key.now (g.context.now ++ g.text.now) g.r.now g.s.now _ _ c.in-Some.ensures.0 refl
    c.in-Some-decode.ensures.0 refl _ (le-bytes 32 g.s.now long) _ _ _
    (sym c.below_order.ensures ∙ c.if-below_order.true) c.limbs_of.ensures.0 c.hash.ensures.0 c.group_equation.ensures

pub returns-else-below_order : goal.returns-else-below_order
returns-else-below_order c =
    let g = c.args in
    let long : length g.s.now ≡ 32 = search rules in
    c.if-below_order.false
    ∙ check-high g.key.now (g.context.now ++ g.text.now) g.r.now g.s.now _ _ c.in-Some.ensures.0 refl
    c.in-Some-decode.ensures.0 refl _ (le-bytes 32 g.s.now long)
    (sym c.below_order.ensures ∙ c.if-below_order.false)
