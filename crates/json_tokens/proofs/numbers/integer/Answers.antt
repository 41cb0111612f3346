use Rattle.json_tokens.specs.Number.{integer_at}
use Rattle.json_tokens.proofs.numbers.integer.Goals as goal

pub returns : goal.returns
unfolding integer_at
returns c = cc
