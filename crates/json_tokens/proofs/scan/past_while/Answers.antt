-- `json_tokens::scan::past_while` meets its contract. The byte that is passed passes the test.
use borrow.Author.Rules.{rules}
use Rattle.json_tokens.proofs.scan.past_while.Goals as goal

pub loop-k-preserved : goal.loop-k-preserved
loop-k-preserved c = search rules
