use borrow.Author.Rules.{rules}
use native.Mathlib.Omega.{arith}
use lib.ListN.{length-take}
use Rattle.list_parts.proofs.Items.{item-past, item-get}
use Rattle.list_parts.proofs.places.server_place.Goals as goal

pub returns-then-y-i : goal.returns-then-y-i
returns-then-y-i c = item-past _ _ (simp length-take (omega arith))

pub returns : goal.returns
returns c =
    item-get c.args.y.asked c.args.y.places
    c.args.i (search rules) c.requires.1
