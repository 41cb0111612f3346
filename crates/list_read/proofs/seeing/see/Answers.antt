use borrow.Author.Rules.{rules}
use Rattle.json_tokens.proofs.Picks.{inside}
use Rattle.list_read.proofs.Parts.{see-brace, see-parts}
use Rattle.list_read.proofs.seeing.see.Goals as goal

pub returns-then-b-ne123 : goal.returns-then-b-ne123
returns-then-b-ne123 c = search (see-brace, rules)

pub members-m-requires : goal.members-m-requires
members-m-requires c = search (inside, rules)

pub returns : goal.returns
returns c = search (see-parts, rules)
