-- `server_list::records::index_in` meets its contract: `position` answers the first record with the SRV value.
use mathlib.Core.Path.{refl, ap, ◌∙◌}
use Prim.Native.Nat.{◌/◌}
use native.Mathlib.Omega.{arith}
use lib.ListN.{length}
use borrow.Author.Rules.{rules}
use Rattle.std.proofs.lemmas.Iterator.{YieldsList-from_range}
use Rattle.std.proofs.lemmas.Iterator.Search.{position_from_yields_List}
use Rattle.std.specs.Option.{unwrap_or}
use Rattle.laws.proofs.Ranges.{range_least}
use Rattle.server_list.specs.Lists.{serves_at}
use Rattle.server_list.specs.Lookup.{first_in}
use Rattle.server_list.proofs.records.index_in.Goals as goal

pub returns : goal.returns
unfolding first_in
returns c =
    let test = serves_at c.args.srv.now c.args.list.now in
    let n = length c.args.list.now / 64 in
    let found =
    position_from_yields_List test _ _ c.position.result c.position.ensures.ran
    (YieldsList-from_range 0 n n refl (omega arith)) (λ x b q k. search rules) in
    c.unwrap_or.ensures ∙ ap (λ o. unwrap_or o n) found ∙ range_least test n
