-- `console_lines::lines::put_record` meets its contract, by the verdict.
use Rattle.check_response.specs.declared.Window.{Window}
use Rattle.refusal.specs.declared.Refusal.{Refusal}
use Rattle.std.specs.Prelude.{Result}
use mathlib.Core.Path.{sym, ap}
use native.Mathlib.Omega.{arith}
use Rattle.console_lines.specs.Line.{record_line}
use Rattle.laws.proofs.Written.{puts-as}
use borrow.Author.Rules.{rules}
use Rattle.console_lines.proofs.lines.put_record.Goals as goal

pub returns-in-Ok : goal.returns-in-Ok
returns-in-Ok c =
    let v = c.in-Ok.is in
    let p = c.put_window.ensures in
    let k = c.args.k in record { puts = puts-as (ap (λ (w : Result Window Refusal). record_line k w) (sym v)) p.puts; upper_bound = p.upper_bound }

pub returns-in-Err : goal.returns-in-Err
returns-in-Err c =
    let v = c.in-Err.is in
    let p = c.put_refusal.ensures in
    let k = c.args.k in record { puts = puts-as (ap (λ (w : Result Window Refusal). record_line k w) (sym v)) p.puts; upper_bound = omega (arith, p.upper_bound) }
