-- `server_list::lookup::find_server` meets its contract. By the answer of the search.
use Rattle.server_list.proofs.Matching.{within-owner, within-shipped, part_at, place_at}
use borrow.Author.Rules.{rules}
use mathlib.Core.Path.{◌≡◌}
use Rattle.std.specs.Prelude.{Ok, Result}
use Rattle.refusal.specs.declared.Refusal.{Refusal}
use Rattle.server_list.specs.declared.Where.{Where}
use Rattle.server_list.specs.declared.Where.TheVariants.{Owner, Shipped}
use Rattle.server_list.proofs.lookup.find_server.Goals as goal

pub record_of-requires : goal.record_of-requires
record_of-requires c = search (within-owner, rules)

pub record_of-requires-in-Ok-Shipped : goal.record_of-requires-in-Ok-Shipped
record_of-requires-in-Ok-Shipped c = search (within-shipped, rules)

pub returns-in-Ok-Owner-clause-ref_ptr_value : goal.returns-in-Ok-Owner-clause-ref_ptr_value
returns-in-Ok-Owner-clause-ref_ptr_value c = search (place_at, rules)

pub returns-in-Ok-Shipped-clause-ref_ptr_value : goal.returns-in-Ok-Shipped-clause-ref_ptr_value
returns-in-Ok-Shipped-clause-ref_ptr_value c = search (place_at, rules)

pub returns-in-Ok-Owner-clause-result_value : goal.returns-in-Ok-Owner-clause-result_value
returns-in-Ok-Owner-clause-result_value c =
    let w : Result Where Refusal = Ok (Owner c.in-Ok-Owner.k) in
    let e : c.search-found.result ≡ w = search rules in
    part_at _ _ _ w e c.search-found.ensures c.record_of.ensures.result_value

pub returns-in-Ok-Shipped-clause-result_value : goal.returns-in-Ok-Shipped-clause-result_value
returns-in-Ok-Shipped-clause-result_value c =
    let w : Result Where Refusal = Ok (Shipped c.in-Ok-Shipped.k) in
    let e : c.search-found.result ≡ w = search rules in
    part_at _ _ _ w e c.search-found.ensures c.record_of-in-Ok-Shipped.ensures.result_value

pub returns-in-Err : goal.returns-in-Err
returns-in-Err c = record { result_value = search (part_at, rules); ref_ptr_value = search (place_at, rules) }
