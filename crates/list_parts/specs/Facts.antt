-- For the private functions: the element at a place of a list.
use Rattle.std.specs.Prelude.{ℕ, List, None, Option, Some}
use Rattle.list_parts.specs.Parts.{nth}

unfoldable pub item_in : List ℕ → ℕ → Option ℕ
item_in ks j = nth None Some ks j
