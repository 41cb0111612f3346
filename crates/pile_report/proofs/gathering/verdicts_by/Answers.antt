-- `pile_report::gathering::verdicts_by` meets its contract. Each place passed holds the verdict on its record.
use mathlib.Core.Path.{refl}
use native.Mathlib.Omega.{arith}
use Rattle.pile_report.proofs.Verdicts.{gathering-none, gathering-next}
use Rattle.pile_report.proofs.gathering.verdicts_by.Goals as goal

pub loop-k-init : goal.loop-k-init
loop-k-init g c = gathering-none refl

pub loop-k-preserved : goal.loop-k-preserved
loop-k-preserved g c = gathering-next c.loop-k.invariant (omega arith) c.requires.most c.judge-v.ensures

pub returns : goal.returns
returns g c = λ v j k h. c.loop-k.invariant.known v j k (omega arith)
