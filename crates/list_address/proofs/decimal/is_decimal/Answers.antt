use mathlib.Core.Bool.{not}
use mathlib.Core.Path.{ap}
use native.Mathlib.Omega.{arith}
use borrow.Author.Rules.{rules}
use Rattle.json_tokens.specs.Scan.{digit}
use Rattle.list_address.proofs.Sizes.{run_long}
use Rattle.list_address.proofs.decimal.is_decimal.Goals as goal

pub value-requires : goal.value-requires
value-requires c =
    let h = run_long digit c.args.wide c.args.s.now (search rules) (ap not c.if-not-is_run.false) in
    omega arith
