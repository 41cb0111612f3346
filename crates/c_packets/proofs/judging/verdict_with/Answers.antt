-- `c_packets::judging::verdict_with` meets its contract.
use Rattle.check_response.specs.declared.Window.{Window}
use Rattle.refusal.specs.declared.Refusal.{Refusal}
use Rattle.std.specs.Prelude.{Result}
use mathlib.Core.Path.{sym, ap}
use Rattle.c_packets.specs.Judging.{verdict_with}
use borrow.Author.Rules.{rules}
use Rattle.c_packets.proofs.judging.verdict_with.Goals as goal

pub returns-in-Ok : goal.returns-in-Ok
returns-in-Ok c =
    let key = c.args.key in
    sym (ap (λ (v : Result Window Refusal). verdict_with v key) c.in-Ok.is)

pub returns-in-Err : goal.returns-in-Err
returns-in-Err c =
    let key = c.args.key in
    sym (ap (λ (v : Result Window Refusal). verdict_with v key) c.in-Err.is)
