use lib.ListN.{drop}
use Rattle.json_quote.specs.Quoted.{quoted_rest}
use Rattle.json_quote.proofs.Putting.{Putting}
use Rattle.json_quote.proofs.quoting.put_quoted.Given as goal

abbrev pub invariant-loop-b : goal.invariant-loop-b
invariant-loop-b l = Putting (quoted_rest l.x) (quoted_rest (drop l.b-index l.x)) l.initial.out l.initial.k l.out l.k
