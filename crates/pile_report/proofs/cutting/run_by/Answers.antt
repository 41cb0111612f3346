-- `pile_report::cutting::run_by` meets its contract. The run by the verdicts that were gathered is the judge's run.
use mathlib.Core.Path.{refl}
use Rattle.pile.specs.Pile.{records_in}
use Rattle.pile.specs.Links.{linked_of}
use Rattle.pile_runs.specs.Convict.{verdict_in}
use Rattle.pile_runs.proofs.SamePile.{same_answer}
use Rattle.pile_report.proofs.Runs.{run-linked}
use Rattle.pile_report.proofs.cutting.run_by.Goals as goal

pub verdicts_by-verdicts-requires-clause-most : goal.verdicts_by-verdicts-requires-clause-most
verdicts_by-verdicts-requires-clause-most g c = c.requires.whole.to

pub returns : goal.returns
returns g c = λ v j.
    let p = c.args.pile.now in
    let vs = verdict_in c.verdicts_by-verdicts.result in
    same_answer vs v (linked_of p) (linked_of p) (records_in p) (c.verdicts_by-verdicts.ensures v j) (λ i z u. refl) c.shortest_run.result
    (run-linked p vs c.links_of.result c.shortest_run.result c.requires.whole c.links_of.ensures
    c.shortest_run.ensures.answers)
