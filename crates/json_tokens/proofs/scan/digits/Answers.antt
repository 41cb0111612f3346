use borrow.Author.Rules.{rules}
use Rattle.laws.specs.Pick.{both}
use Rattle.json_tokens.specs.Scan.{digit}
use Rattle.json_tokens.proofs.While.{past-is, stops-as}
use Rattle.json_tokens.proofs.scan.digits.Goals as goal

pub returns : goal.returns
unfolding both
returns c = past-is digit _ _ _ (stops-as (λ x b h. search rules) c.past_while.ensures)
