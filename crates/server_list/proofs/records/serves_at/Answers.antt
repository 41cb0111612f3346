-- `server_list::records::serves_at` meets its contract. A record has 64 bytes, of which the SRV value is the last half.
use mathlib.Core.Path.{ap, ◌∙◌}
use native.Mathlib.Omega.{arith}
use lib.ListN.{length, length-take, length-drop}
use Rattle.server_list.specs.Lists.{serves}
use Rattle.server_list.proofs.Matching.{server-long}
use Rattle.server_list.proofs.records.serves_at.Goals as goal

pub slice_bounds-alike-end : goal.slice_bounds-alike-end
slice_bounds-alike-end c =
    let one = c.record_of-one.ensures.result_value in
    let long = ap length one ∙ server-long c.args.list.now c.args.k c.requires in
    omega (arith, long)

pub alike-requires : goal.alike-requires
alike-requires c =
    let one = c.record_of-one.ensures.result_value in
    let long = ap length one ∙ server-long c.args.list.now c.args.k c.requires in
    simp (length-take, length-drop) (omega (arith, long))

pub returns : goal.returns
unfolding serves
returns c = rw (← c.record_of-one.ensures.result_value) c.alike.ensures
