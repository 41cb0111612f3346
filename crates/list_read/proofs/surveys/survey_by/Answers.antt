use borrow.Author.Rules.{rules}
use Rattle.list_read.proofs.Surveying.{members}
use Rattle.list_read.proofs.Parts.{array-inside}
use Rattle.list_read.proofs.surveys.survey_by.Goals as goal

pub returns-then-not-sources_good : goal.returns-then-not-sources_good
returns-then-not-sources_good c = search (members, rules)

pub returns-then-not-reports_good : goal.returns-then-not-reports_good
returns-then-not-reports_good c = search (members, rules)

pub returns-in_default : goal.returns-in_default
returns-in_default c = search (members, rules)

pub survey_servers-requires : goal.survey_servers-requires
survey_servers-requires c = array-inside _ _ c.array_place.ensures c.in-Some.is

pub returns : goal.returns
returns c = search (members, rules)
