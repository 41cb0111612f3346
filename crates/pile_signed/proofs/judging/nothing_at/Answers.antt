-- `pile_signed::judging::nothing_at` meets its contract.
-- It returns true at the first test of the row that holds, and else what the last test says.
use Rattle.laws.proofs.Rows.{row}
use Rattle.pile.specs.Valid.{nothing_at}
use Rattle.pile_signed.proofs.Own.{own-bad-exactly}
use Rattle.pile_signed.proofs.judging.nothing_at.Goals as goal

pub returns-then-length_bad : goal.returns-then-length_bad
unfolding nothing_at
returns-then-length_bad c = rw own-bad-exactly (search row depth 9)

pub returns : goal.returns
unfolding nothing_at
returns c = rw own-bad-exactly (search row depth 9)
