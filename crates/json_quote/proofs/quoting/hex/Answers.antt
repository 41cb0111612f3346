-- `json_quote::quoting::hex` meets its contract.
use mathlib.Core.Path.{refl}
use Rattle.json_quote.specs.Quoted.{hex_of}
use Rattle.laws.proofs.Picks.{hit-below, miss-below}
use Rattle.json_quote.proofs.quoting.hex.Goals as goal

pub returns-then-n-lt10 : goal.returns-then-n-lt10
unfolding hex_of
returns-then-n-lt10 c = hit-below _ c.if-n-lt10.true refl

pub returns-else-n-lt10 : goal.returns-else-n-lt10
unfolding hex_of
returns-else-n-lt10 c = miss-below _ c.if-n-lt10.false refl
