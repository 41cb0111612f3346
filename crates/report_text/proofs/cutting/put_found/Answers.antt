-- `report_text::cutting::put_found` meets its contract.
use mathlib.Core.Path.{subst}
use Rattle.pile_report.specs.Taking.{ConvictsIn}
use Rattle.pile_runs.specs.Spans.{Answers}
use Rattle.report_text.proofs.Cuts.{cut-none, cut-run, cut-writable}
use Rattle.report_text.proofs.cutting.put_found.Goals as goal

pub put_cut-requires : goal.put_cut-requires
put_cut-requires c =
    let p = c.args.pile.now in
    let f = c.requires in
    cut-writable p f.answers _ _ f.good (subst (Answers (ConvictsIn p f.answers)) c.in-Some.is f.run).holds

pub returns-in-None : goal.returns-in-None
returns-in-None c =
    let p = c.args.pile.now in
    let out = c.args.out.now in
    let f = c.requires in
    record {
      cuts = λ a g r. (cut-none p a out g r c.in-None.is c.refuse.ensures).0;
      out_after = (cut-none p f.answers out f.good f.run c.in-None.is c.refuse.ensures).1;
    }

pub returns-in-Some : goal.returns-in-Some
returns-in-Some c =
    let p = c.args.pile.now in
    let out = c.args.out.now in
    let f = c.requires in
    let i = c.in-Some.i in
    let j = c.in-Some.j in
    let h = c.put_cut.ensures in
    record {
      cuts = λ a g r. (cut-run p a out g i j r c.in-Some.is h.value h.out_after).0;
      out_after = (cut-run p f.answers out f.good i j f.run c.in-Some.is h.value h.out_after).1;
    }
