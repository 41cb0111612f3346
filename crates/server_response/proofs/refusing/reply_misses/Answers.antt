-- `server_response::refusing::reply_misses` meets its contract.
use Rattle.server_response.specs.Refusing.{reply_misses}
use borrow.Author.Rules.{rules}
use Rattle.server_response.proofs.refusing.reply_misses.Goals as goal

pub returns : goal.returns
unfolding reply_misses
returns c = rw (c.leads.ensures, c.leaf.ensures)
