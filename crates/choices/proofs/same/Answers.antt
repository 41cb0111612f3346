use Rattle.choices.proofs.Masks.{apart, alike}
use Rattle.choices.proofs.same.Goals as goal

pub overflow_sub-result : goal.overflow_sub-result
overflow_sub-result c = apart _ _ c.requires.0 c.requires.1

pub returns : goal.returns
returns c = alike _ _ c.requires.0 c.requires.1
