use mathlib.Core.Path.{refl, sym, ◌∙◌}
use Rattle.list_read.specs.Server.{places_in}
use Rattle.list_parts.proofs.Items.{place_inside, item-none}
use Rattle.list_parts.proofs.places.member_item.Goals as goal

pub item_of-requires : goal.item_of-requires
item_of-requires c = place_inside _ _ (sym c.array_place.ensures ∙ c.in_ok-v.was)

pub returns : goal.returns
unfolding places_in
returns c = rw (sym c.array_place.ensures ∙ c.in_ok-v.was) c.item_of.ensures

pub returns-in_err-v : goal.returns-in_err-v
unfolding places_in
returns-in_err-v c =
    c.from_residual.ensures ∙ rw (sym c.array_place.ensures ∙ c.in_err-v.was) (item-none _ _ refl)
