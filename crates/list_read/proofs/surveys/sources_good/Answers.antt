use borrow.Author.Rules.{rules}
use Rattle.json_tokens.proofs.Picks.{inside}
use Rattle.list_read.proofs.Surveying.{optional}
use Rattle.list_read.proofs.surveys.sources_good.Goals as goal

pub urls_in-requires : goal.urls_in-requires
urls_in-requires c = search (inside, rules)

pub returns-then-byte-eq91 : goal.returns-then-byte-eq91
returns-then-byte-eq91 c = search (optional, rules)

pub returns-else-byte-eq91 : goal.returns-else-byte-eq91
returns-else-byte-eq91 c = search (optional, rules)

pub returns-in-Nothing : goal.returns-in-Nothing
returns-in-Nothing c = search (optional, rules)

pub returns-in-Twice : goal.returns-in-Twice
returns-in-Twice c = search (optional, rules)
