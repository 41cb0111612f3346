use mathlib.Core.Path.{◌∙◌, refl}
use borrow.Author.Rules.{rules}
use Rattle.std.proofs.lemmas.Iterator.Consumers.{YieldsList-from_first}
use Rattle.std.proofs.lemmas.Iterator.Search.{all_from_yields_List}
use Rattle.list_write.specs.Given.{good_server}
use Rattle.list_write.specs.Lending.{given_of}
use Rattle.list_write.specs.Facts.{given_left}
use Rattle.list_write.proofs.Lends.{all-servers}
use Rattle.list_write.proofs.whole.servers_good.Goals as goal

pub returns : goal.returns
returns c =
    all_from_yields_List (λ g. good_server g.name g.addresses) c.all.new.self _ c.all.result c.all.ensures.ran (YieldsList-from_first given_of given_left (given_left c.args.servers) refl) (λ x b q k. search rules)
    ∙ all-servers (given_left c.args.servers)
