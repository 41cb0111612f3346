-- `sha512_block::blocks::blocks_hashed` meets its contract. The loop keeps: the hash value is that after the blocks so
-- far.
use Rattle.std.proofs.Common.{◌≡◌}
use Rattle.sha512_block.specs.HashValue.{hash_after}
use Rattle.sha512_block.proofs.blocks.blocks_hashed.Given as goal

abbrev pub invariant-loop-block : goal.invariant-loop-block
invariant-loop-block g l = l.x ≡ hash_after l.fn.h l.fn.s l.block-index
