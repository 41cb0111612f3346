-- `sha512_block::blocks::blocks_hashed` meets its contract. The loop keeps: the hash value is that after the blocks so
-- far.
use Rattle.std.proofs.Common.{◌≡◌, ◌/◌, length, sym, ap, ◌∙◌, arith}
use Rattle.sha512_block.specs.HashValue.{hash_after, hashed}
use Rattle.sha512_block.proofs.HashValue.{hash_none, hash_more}
use Rattle.sha512_block.proofs.blocks.blocks_hashed.Goals as goal

pub loop-block-init : goal.loop-block-init
loop-block-init g c = sym (hash_none _ _)

pub loop-block-preserved : goal.loop-block-preserved
loop-block-preserved g c =
    hash_more _ c.args.s.now _ _ c.as_chunks.result.0.now (length c.args.s.now / 128) c.loop-block.block-index _
    c.as_chunks.ensures.front (omega (arith, c.as_chunks.ensures.front_len)) c.loop-block.invariant c.compress-next.ensures

pub returns : goal.returns
unfolding hashed
returns g c =
    let all : c.loop-block.block-index ≡ length c.args.s.now / 128 = omega (arith, c.as_chunks.ensures.front_len) in
    c.loop-block.invariant ∙ ap (hash_after c.args.h c.args.s.now) all
