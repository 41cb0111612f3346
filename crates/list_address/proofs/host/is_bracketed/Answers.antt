use borrow.Author.Rules.{rules}
use Rattle.list_address.proofs.Bracketed.{bracketed_in, bracketed_first, bracketed_last, bracketed_short}
use Rattle.list_address.proofs.host.is_bracketed.Goals as goal

pub returns-in-91 : goal.returns-in-91
returns-in-91 c = bracketed_in _ c.in-91.len_at_least (search rules) (search rules) c.is_ipv6.ensures

pub returns-in_default : goal.returns-in_default
returns-in_default c = bracketed_short _ c.in_default.len_below

pub returns-in_default-2 : goal.returns-in_default-2
returns-in_default-2 c = bracketed_last _ (search rules)

pub returns-in_default-3 : goal.returns-in_default-3
returns-in_default-3 c = bracketed_first _ (search rules)
