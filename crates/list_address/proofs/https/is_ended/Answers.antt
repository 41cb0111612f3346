use borrow.Author.Rules.{rules}
use Rattle.list_address.proofs.Bracketed.{ended_in, ended_last, ended_short}
use Rattle.list_address.proofs.https.is_ended.Goals as goal

pub returns-in-58 : goal.returns-in-58
returns-in-58 c = ended_in _ (search rules) c.is_host.ensures

pub returns-in_default : goal.returns-in_default
returns-in_default c = ended_short _ c.in_default.len_below

pub returns-in_default-2 : goal.returns-in_default-2
returns-in_default-2 c = ended_last _ (search rules)
