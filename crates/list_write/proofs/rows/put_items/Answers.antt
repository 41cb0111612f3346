use mathlib.Core.Path.{◌≡◌}
use native.Mathlib.Omega.{arith}
use borrow.Author.Rules.{rules}
use Rattle.list_write.specs.Texts.{element_text, items_text}
use Rattle.list_write.proofs.Arrays.{rowing-first, rowing-length, rowing-mark, rowing-item, rowing-turn, rowing-close, rowing-done}
use Rattle.list_write.proofs.Feeds.{good-first}
use Rattle.list_write.proofs.rows.put_items.Goals as goal

pub loop-line-init : goal.loop-line-init
unfolding items_text
loop-line-init c =
    let e : c.into_iter-line-iterator.result.0.now ≡ c.args.s.now = search rules in
    rw e (search rules, search rules, c.requires.0, rowing-first (element_text c.args.item) _ _ _ c.requires.1)

pub put_word-a-requires : goal.put_word-a-requires
put_word-a-requires c = rowing-mark _ c.loop-line.invariant.3 _ _ c.in-Some.ensures.steps

pub put_item-j-requires : goal.put_item-j-requires
unfolding element_text
put_item-j-requires c =
    rw c.line_text.ensures (
      (good-first _ _ _ c.in-Some.ensures.steps c.loop-line.invariant.2).0,
      rowing-item _ c.loop-line.invariant.3 _ _ c.in-Some.ensures.steps c.put_word-a.ensures,
    )

pub loop-line-preserved : goal.loop-line-preserved
unfolding element_text
loop-line-preserved c = (
  search rules,
  search rules,
  (good-first _ _ _ c.in-Some.ensures.steps c.loop-line.invariant.2).1,
  rowing-turn _ c.loop-line.invariant.3 _ _ c.in-Some.ensures.steps c.put_word-a.ensures
      (rw c.line_text.ensures at c.put_item-j.ensures),
)

pub put_byte-requires : goal.put_byte-requires
put_byte-requires c = rowing-close _ c.loop-line.invariant.3 (rw c.in-None.is at c.next.ensures.steps).0

pub shape_of-out : goal.shape_of-out
shape_of-out c = omega (arith, rowing-length _ c.loop-line.invariant.3)

pub returns : goal.returns
unfolding items_text
returns c =
    rowing-done _ c.loop-line.invariant.3 (rw c.in-None.is at c.next.ensures.steps).0 c.put_byte.ensures
