use Rattle.json_tokens.specs.Number.{signed_at}
use Rattle.json_tokens.proofs.numbers.signed.Goals as goal

pub returns : goal.returns
unfolding signed_at
returns c = cc
