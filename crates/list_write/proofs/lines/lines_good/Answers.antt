use mathlib.Core.Path.{◌∙◌, refl}
use borrow.Author.Rules.{rules}
use Rattle.std.proofs.lemmas.Iterator.Consumers.{YieldsList-from_first}
use Rattle.std.proofs.lemmas.Iterator.Search.{all_from_yields_List}
use Rattle.list_write.specs.Lines.{lines_of, item_good}
use Rattle.list_write.specs.Facts.{lines_left}
use Rattle.list_write.proofs.Feeds.{all-good}
use Rattle.list_write.proofs.lines.lines_good.Goals as goal

pub returns : goal.returns
returns c =
    all_from_yields_List (item_good c.args.item) c.all.new.self _ c.all.result c.all.ensures.ran (YieldsList-from_first (λ x. x.now) lines_left (lines_of c.args.s.now) refl) (λ x b q k. search rules)
    ∙ all-good c.args.item (lines_of c.args.s.now)
