-- What a console asks of answers that it kept (request P9). An answer is told by document 01's number of it, which is 0
-- where it is valid, and by what the question reads.
use Rattle.std.specs.Prelude.{ℕ, Bool, ◌&&◌, eqb, leb}
use Rattle.laws.specs.Same.{same}
use Rattle.check_reuse.specs.declared.Delegation.{Delegation}

-- The window of an answer may still be used at a time: there is a window, and the time is not past MAXT. MAXT itself
-- counts as not past, since it is the maximum timestamp for which the key is trusted (draft 19, 5.2.6).
unfoldable pub may_use : ℕ → ℕ → ℕ → Bool
may_use number maxt time = eqb number 0 && leb time maxt

-- Two DELE hold the same. DELE is a message with the tags PUBK, MINT and MAXT (draft 19, 5.2.6): the key, and the first
-- and the last second for which it is trusted.
unfoldable pub same_dele : Delegation → Delegation → Bool
same_dele dele other =
    eqb dele.mint other.mint && (eqb dele.maxt other.maxt && same dele.pubk other.pubk)

-- Two answers come from one delegation: both are valid, and their DELE hold the same.
unfoldable pub same_delegation : ℕ → Delegation → ℕ → Delegation → Bool
same_delegation first dele second other = eqb first 0 && (eqb second 0 && same_dele dele other)
