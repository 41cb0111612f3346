use borrow.Author.Rules.{rules}
use mathlib.Core.Path.{sym}
use Rattle.json_tokens.specs.Scan.{past_colon}
use Rattle.json_tokens.proofs.Picks.{picks}
use Rattle.json_tokens.proofs.scan.colon.Goals as goal

pub overflow_add-c : goal.overflow_add-c
unfolding past_colon
overflow_add-c c = search (picks, rules) depth 8

pub returns-then-b-eq58 : goal.returns-then-b-eq58
unfolding past_colon
returns-then-b-eq58 c =
    rw (sym c.blanks-c.ensures, sym c.blanks.ensures) (search (picks, rules))

pub returns-else-b-eq58 : goal.returns-else-b-eq58
unfolding past_colon
returns-else-b-eq58 c = rw (sym c.blanks-c.ensures) (search (picks, rules))
