-- `json_quote::spending::width` meets its contract.
use borrow.Author.Rules.{rules}
use mathlib.Core.Path.{◌∙◌}
use Rattle.laws.proofs.Picks.{choices}
use Rattle.json_quote.proofs.Quotes.{width-of}
use Rattle.json_quote.proofs.spending.width.Goals as goal

pub returns-in-34 : goal.returns-in-34
returns-in-34 c = search (choices, rules) ∙ width-of c.args.b

pub returns-in-0-to-31 : goal.returns-in-0-to-31
returns-in-0-to-31 c = search (choices, rules) ∙ width-of c.args.b

pub returns-in_default : goal.returns-in_default
returns-in_default c = search (choices, rules) ∙ width-of c.args.b
