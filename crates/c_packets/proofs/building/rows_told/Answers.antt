-- `c_packets::building::rows_told` meets its contract.
use Rattle.refusal.specs.declared.Refusal.{Refusal}
use Rattle.std.specs.Prelude.{Result, ℕ}
use mathlib.Core.Path.{sym, ap}
use Rattle.c_packets.specs.Building.{tb_laid}
use borrow.Author.Rules.{rules}
use Rattle.c_packets.proofs.building.rows_told.Goals as goal

pub returns-in-Ok : goal.returns-in-Ok
returns-in-Ok c =
    let length = c.args.length in
    sym (ap (λ (l : Result ℕ Refusal). tb_laid l length) c.in-Ok.is)

pub returns-in-Err : goal.returns-in-Err
returns-in-Err c =
    let length = c.args.length in
    sym (ap (λ (l : Result ℕ Refusal). tb_laid l length) c.in-Err.is)
