-- `server_list::records::record_of` meets its contract.
use mathlib.Core.Path.{refl}
use native.Mathlib.Nat.{add-sub_cancel_left}
use Rattle.server_list.specs.Lists.{server_at}
use borrow.Author.Rules.{rules}
use Rattle.server_list.proofs.records.record_of.Goals as goal

pub returns : goal.returns
unfolding server_at
returns c =
    record { result_value = rw add-sub_cancel_left; ref_ptr_value = refl }
