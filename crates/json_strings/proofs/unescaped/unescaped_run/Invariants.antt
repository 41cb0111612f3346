use mathlib.Core.Path.{◌≡◌}
use Rattle.json_tokens.specs.Scan.{past_while}
use Rattle.json_strings.specs.Text.{unescaped}
use Rattle.json_strings.proofs.unescaped.unescaped_run.Given as goal

abbrev pub invariant-loop : goal.invariant-loop
invariant-loop l = past_while unescaped l.s l.k ≡ past_while unescaped l.s l.at
