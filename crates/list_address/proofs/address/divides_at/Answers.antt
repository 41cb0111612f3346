-- `list_address::address::divides_at` meets its contract.
use borrow.Author.Rules.{rules}
use Rattle.laws.specs.Pick.{both}
use Rattle.list_address.specs.Address.{divides_at}
use Rattle.list_address.specs.Decimal.{is_port}
use Rattle.list_address.proofs.Tails.{tail_all}
use Rattle.list_address.proofs.address.divides_at.Goals as goal

pub returns-then-is_decimal : goal.returns-then-is_decimal
unfolding divides_at is_port both
returns-then-is_decimal c = search (tail_all, rules)

pub returns-else-is_decimal : goal.returns-else-is_decimal
unfolding divides_at is_port both
returns-else-is_decimal c = search (tail_all, rules)
