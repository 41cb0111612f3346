use borrow.Author.Rules.{rules}
use mathlib.Core.Path.{◌∙◌, ap}
use Rattle.laws.specs.Pasted.{pasted}
use Rattle.report_read.proofs.Areas.{good-key, short-key, of-key, names-pasted}
use Rattle.report_read.proofs.records.put_names.Goals as goal

pub put_part-requires : goal.put_part-requires
put_part-requires c =
    let r = c.requires.0 in (good-key r, (short-key r, search rules))

pub returns : goal.returns
returns c =
    let a = c.args in
    let p = c.requires in
    names-pasted p.0.ready a.out.now a.at
    (c.put_part.ensures ∙ ap (pasted a.out.now a.at) (of-key p.0 32))
    c.put_rand.ensures p.1
