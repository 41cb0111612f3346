-- `pile_report::gathering::valid_by` meets its contract. Each place passed holds the verdict on its record, a window.
use mathlib.Core.Path.{refl}
use native.Mathlib.Omega.{arith}
use Rattle.pile_report.proofs.Verdicts.{passing-none, passing-next, stopped, passed-all}
use Rattle.pile_report.proofs.gathering.valid_by.Goals as goal

pub loop-k-init : goal.loop-k-init
loop-k-init g c = passing-none refl

pub returns-in-Err : goal.returns-in-Err
returns-in-Err g c = λ v j. stopped c.loop-k.invariant (omega arith) v j c.in-Err.ensures

pub loop-k-preserved : goal.loop-k-preserved
loop-k-preserved g c = passing-next c.loop-k.invariant (omega arith) c.requires.most c.in-Ok.ensures

pub returns : goal.returns
returns g c = λ v j. (passed-all c.loop-k.invariant (omega arith), λ k h. c.loop-k.invariant.gathered.known v j k (omega arith))
