use mathlib.Core.Path.{◌∙◌, refl}
use borrow.Author.Rules.{rules}
use Rattle.std.proofs.lemmas.Iterator.Consumers.{YieldsList-from_first}
use Rattle.std.proofs.lemmas.Iterator.Search.{any_from_yields_List}
use Rattle.list_write.specs.Given.{is_crowded}
use Rattle.list_write.specs.Lending.{given_of}
use Rattle.list_write.specs.Facts.{given_left}
use Rattle.list_write.proofs.Lends.{any-crowded}
use Rattle.list_write.proofs.whole.any_crowded.Goals as goal

pub returns : goal.returns
returns c =
    any_from_yields_List (λ g. is_crowded g.addresses) c.any.new.self _ c.any.result c.any.ensures.ran (YieldsList-from_first given_of given_left (given_left c.args.servers) refl) (λ x b q k. search rules)
    ∙ any-crowded (given_left c.args.servers)
