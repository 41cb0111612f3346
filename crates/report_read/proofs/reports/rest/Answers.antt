use mathlib.Core.Path.{refl, sym, ◌∙◌}
use Rattle.json_values.specs.Members.{answer_of}
use Rattle.laws.specs.Pick.{pick}
use Rattle.report_read.proofs.Texts.{end_more, end-here, end-wrong, more-less, skip-more, skip-end, twice-from, never}
use Rattle.report_read.proofs.reports.rest.Goals as goal

pub loop-at-init : goal.loop-at-init
loop-at-init c = (refl, λ v. refl)

pub returns-then-is_named : goal.returns-then-is_named
returns-then-is_named c = λ e h v.
    let l = c.loop-at in
    sym (l.invariant.1 v)
    ∙ twice-from c.args.s.now l.k v (sym c.is_named.ensures ∙ c.if-is_named.true)

pub loop-at-smaller : goal.loop-at-smaller
loop-at-smaller c = more-less c.args.s.now c.loop-at.k c.member.ensures c.in-More.is

pub loop-at-preserved : goal.loop-at-preserved
loop-at-preserved c =
    let l = c.loop-at in
    let s = c.args.s.now in
    let m = c.member.ensures in
    let g = c.in-More.is in (
      end_more s l.k m g ∙ l.invariant.0,
      λ v. skip-more s l.k m c.is_named.ensures c.if-is_named.false 1 v g ∙ l.invariant.1 v,
    )

pub returns-in-End : goal.returns-in-End
unfolding answer_of pick
returns-in-End c =
    let l = c.loop-at in
    let s = c.args.s.now in
    let m = c.member.ensures in
    let g = c.in-End.is in (
      sym l.invariant.0 ∙ end-here s l.k m g,
      λ v. sym (l.invariant.1 v) ∙ skip-end s l.k m c.is_named.ensures c.if-is_named.false 1 v g,
    )

pub returns-in-Wrong : goal.returns-in-Wrong
returns-in-Wrong c = λ e h v.
    let l = c.loop-at in
    never (end-wrong c.args.s.now l.k c.member.ensures c.in-Wrong.is)
    (l.invariant.0 ∙ h)
