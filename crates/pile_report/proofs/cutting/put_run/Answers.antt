-- `pile_report::cutting::put_run` meets its contract. The run is put at the front, and its first rand zeroed over it.
use mathlib.Core.Path.{◌≡◌}
use Prim.Native.Nat.{◌+◌, ◌-◌, ◌*◌}
use native.Mathlib.Omega.{arith}
use lib.ListN.{length, replicate}
use Rattle.laws.specs.Pasted.{part}
use Rattle.laws.proofs.Pasted.{length_part}
use Rattle.laws.proofs.Written.{puts_one, puts-over}
use Rattle.pile_report.specs.Taking.{run_bytes}
use Rattle.pile_report.proofs.cutting.put_run.Goals as goal

pub returns : goal.returns
unfolding run_bytes
returns c =
    let a = 4096 * c.args.i in
    let e = 4096 * c.args.j + 4096 in
    let l = c.args.pile.now in
    let n : length (part a e l) ≡ e - a = length_part l a e (omega arith) (omega arith) in
    let f = puts_one (part a e l) (e - a) c.put.ensures (omega arith) (omega arith) in
    puts-over (replicate 32 0) 32 f (omega arith) c.zero.ensures
