-- `server_list::lookup::search` meets its contract. Each return by the tests that led there.
use Rattle.std.specs.Prelude.{Err, Ok}
use Rattle.server_list.proofs.Seeking.{owner-ragged, shipped-ragged, in-owner, in-shipped, in-neither, finds-sought}
use Rattle.server_list.specs.declared.Where.TheVariants.{Owner, Shipped}
use borrow.Author.Rules.{rules}
use Rattle.server_list.proofs.lookup.search.Goals as goal

pub returns-then-owner-ne0 : goal.returns-then-owner-ne0
returns-then-owner-ne0 c =
    finds-sought _ _ _ (Err _) (search (owner-ragged, rules))

pub returns-then-shipped-ne0 : goal.returns-then-shipped-ne0
returns-then-shipped-ne0 c =
    finds-sought _ _ _ (Err _) (search (shipped-ragged, rules))

pub returns-then-i-owner : goal.returns-then-i-owner
returns-then-i-owner c = finds-sought _ _ _ (Ok (Owner _)) (search (in-owner, rules))

pub returns-then-j-shipped : goal.returns-then-j-shipped
returns-then-j-shipped c = finds-sought _ _ _ (Ok (Shipped _)) (search (in-shipped, rules))

pub returns : goal.returns
returns c = finds-sought _ _ _ (Err _) (search (in-neither, rules))
