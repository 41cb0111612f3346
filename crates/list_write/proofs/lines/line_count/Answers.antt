use mathlib.Core.Path.{refl}
use Rattle.std.proofs.lemmas.Iterator.Consumers.{YieldsList-from_first, count_from_yields_List}
use Rattle.list_write.specs.Lines.{lines_of}
use Rattle.list_write.specs.Facts.{lines_left}
use borrow.Author.Rules.{rules}
use Rattle.list_write.proofs.Feeds.{lines-few}
use Rattle.list_write.proofs.lines.line_count.Goals as goal

pub returns : goal.returns
returns c =
    count_from_yields_List _ c.count.result c.count.ensures.ran (YieldsList-from_first (λ x. x.now) lines_left (lines_of c.args.s.now) refl)

pub count-requires-clause-fits : goal.count-requires-clause-fits
count-requires-clause-fits c =
    let few = lines-few c.args.s.now in
    search rules
