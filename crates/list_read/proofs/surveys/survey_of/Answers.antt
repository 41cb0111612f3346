use borrow.Author.Rules.{rules}
use Rattle.json_tokens.proofs.Picks.{inside}
use Rattle.list_read.proofs.Surveying.{surveying}
use Rattle.list_read.proofs.surveys.survey_of.Goals as goal

pub returns-then-byte-ne123 : goal.returns-then-byte-ne123
returns-then-byte-ne123 c = search (surveying, rules)

pub members-m-requires : goal.members-m-requires
members-m-requires c = search (inside, rules)

pub returns-then-not-is_whole : goal.returns-then-not-is_whole
returns-then-not-is_whole c = search (surveying, rules)

pub returns : goal.returns
returns c = search (surveying, rules)
