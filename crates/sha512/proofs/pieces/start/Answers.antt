-- `sha512::pieces::start` meets its contract.
use Rattle.std.proofs.Common.{ℕ, List, replicate, ap}
use Rattle.sha512_block.specs.HashValue.{hash_after, hashed}
use Rattle.sha512.specs.State.{state_of}
use Rattle.sha512.proofs.State.{state}
use Rattle.sha512.proofs.pieces.start.Goals as goal

pub returns : goal.returns
unfolding state_of hashed hash_after
returns c =
    ap (λ (h : List ℕ). state h (replicate 128 0) 0) c.initial_hash.ensures
