use Rattle.json_strings.specs.Text.{unescaped}
use Rattle.json_tokens.proofs.Counted.{Counted}
use Rattle.json_strings.proofs.unescaped.stretch.Given as goal

abbrev pub invariant-loop-b : goal.invariant-loop-b
invariant-loop-b l = Counted unescaped l.s l.at l.n l.b-index
