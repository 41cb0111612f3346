-- `pile_signed::listing::answer_bytes` meets its contract. The answers of the records passed stand in their places.
use mathlib.Core.Path.{◌≡◌}
use Prim.Native.Nat.{ℕ, ◌-◌, ◌*◌, ◌≤◌, ◌<◌}
use lib.ListN.{length, get_or}
use Rattle.pile_signed.proofs.Own.{own_answer}
use Rattle.pile_signed.proofs.listing.answer_bytes.Given as goal

abbrev pub invariant-loop-k : goal.invariant-loop-k
invariant-loop-k l =
    (l.k ≤ l.n) × (length l.bytes ≡ 32) × ((i : ℕ) → i < 2 * l.k → get_or l.bytes i 0 ≡ own_answer l.pile i)

abbrev pub decreases-loop-k : goal.decreases-loop-k
decreases-loop-k l = l.n - l.k
