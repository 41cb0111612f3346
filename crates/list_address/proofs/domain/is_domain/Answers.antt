use borrow.Author.Rules.{rules}
use Rattle.list_address.proofs.Bracketed.{dotted, undotted, none-dotted}
use Rattle.list_address.proofs.domain.is_domain.Goals as goal

pub returns-in-46 : goal.returns-in-46
returns-in-46 c = dotted _ (search rules) c.is_name.ensures

pub returns-in_default : goal.returns-in_default
returns-in_default c = elim c.in_default.branch [
  | goal.in_default-via-then-s-lt1 w ↦ undotted _ (search (rules, none-dotted)) c.is_name-in_default.ensures
  | goal.in_default-via-else-s-lt1+in_default-1 w ↦ undotted _ (search rules) c.is_name-in_default.ensures
]
