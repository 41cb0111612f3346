use mathlib.Core.Bool.{not}
use mathlib.Core.Path.{◌∙◌, ap}
use borrow.Author.Rules.{rules}
use Rattle.std.proofs.lemmas.Iterator.{YieldsList-from_slice}
use Rattle.std.proofs.lemmas.Iterator.Search.{any_from_yields_List}
use Rattle.list_read.specs.Server.{is_mark}
use Rattle.list_read.proofs.Integers.{unmarked-any}
use Rattle.list_read.proofs.versions.no_mark.Goals as goal

pub returns : goal.returns
returns c =
    let x = c.args.x.now in
    ap not (any_from_yields_List is_mark _ _ c.any.result c.any.ensures.ran (YieldsList-from_slice x cc) (λ b t q k. search rules))
    ∙ unmarked-any x
