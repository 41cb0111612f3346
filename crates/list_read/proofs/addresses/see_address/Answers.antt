use Rattle.json_tokens.proofs.Picks.{inside}
use Rattle.list_read.specs.Server.{is_place}
use Rattle.list_read.specs.Facts.{of_sort}
use Rattle.list_read.proofs.Parts.{address}
use borrow.Author.Rules.{rules}
use Rattle.list_read.proofs.addresses.see_address.Goals as goal

pub returns-then-b-ne123 : goal.returns-then-b-ne123
returns-then-b-ne123 c = search (address, rules)

pub members-m-requires : goal.members-m-requires
members-m-requires c = search (inside, rules)

pub returns-then-not-is_protocol : goal.returns-then-not-is_protocol
returns-then-not-is_protocol c = search (address, rules)

pub returns-then-not-is_sort : goal.returns-then-not-is_sort
unfolding is_place of_sort
returns-then-not-is_sort c = search (address, rules)

pub returns : goal.returns
unfolding is_place of_sort
returns c = search (address, rules)
