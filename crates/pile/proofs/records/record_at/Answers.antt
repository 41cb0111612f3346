-- `pile::records::record_at` meets its contract.
use native.Mathlib.Nat.{add-sub_cancel_left}
use Rattle.pile.specs.Pile.{record_at}
use Rattle.pile.proofs.records.record_at.Goals as goal

pub returns : goal.returns
unfolding record_at
returns c =
    rw add-sub_cancel_left
