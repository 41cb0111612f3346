use native.Mathlib.Omega.{arith}
use Rattle.json_strings.specs.Text.{unescaped}
use Rattle.json_tokens.proofs.While.{while-ahead}
use Rattle.json_strings.proofs.Runs.{walked-run}
use Rattle.json_strings.proofs.strings.onward.Goals as goal

pub returns-then-n-k-eq1 : goal.returns-then-n-k-eq1
returns-then-n-k-eq1 c =
    let a = c.args in (
      walked-run _ _ c.unescaped_run.ensures,
      omega (arith, c.unescaped_run.ensures, while-ahead unescaped a.s.now a.n),
    )
