use mathlib.Core.Path.{◌≡◌}
use borrow.Author.Rules.{rules}
use Rattle.list_write.specs.Texts.{element_text, items_text}
use Rattle.list_write.proofs.Arrays.{roomed-first, roomed-turn, roomed-last}
use Rattle.list_write.proofs.Feeds.{good-first}
use Rattle.list_write.proofs.sizing.items_room.Goals as goal

pub loop-line-init : goal.loop-line-init
loop-line-init c =
    let e : c.into_iter-line-iterator.result.0.now ≡ c.args.s.now = search rules in
    rw e (search rules, search rules, c.requires, roomed-first (element_text c.args.item) _ _)

pub item_room-left-requires : goal.item_room-left-requires
item_room-left-requires c =
    rw c.line_text.ensures (good-first _ _ _ c.in-Some.ensures.steps c.loop-line.invariant.2).0

pub loop-line-preserved : goal.loop-line-preserved
unfolding element_text
loop-line-preserved c = (
  search rules,
  search rules,
  (good-first _ _ _ c.in-Some.ensures.steps c.loop-line.invariant.2).1,
  roomed-turn _ c.loop-line.invariant.3 _ _ c.in-Some.ensures.steps c.spend.ensures
      (rw c.line_text.ensures at c.item_room-left.ensures),
)

pub returns : goal.returns
unfolding items_text
returns c =
    roomed-last _ c.loop-line.invariant.3 (rw c.in-None.is at c.next.ensures.steps).0 c.spend-2.ensures
