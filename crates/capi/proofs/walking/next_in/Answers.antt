-- `capi::walking::next_in` meets its contract.
use mathlib.Core.Path.{sym, ap}
use Rattle.walk.specs.Taking.{next_in}
use borrow.Author.Rules.{rules}
use Rattle.capi.proofs.walking.next_in.Goals as goal

pub returns-in-Ok : goal.returns-in-Ok
returns-in-Ok c = sym (ap (next_in c.args.w) c.in-Ok.is)

pub returns-in-Err : goal.returns-in-Err
returns-in-Err c = sym (ap (next_in c.args.w) c.in-Err.is)
