-- The contract settles the result, in both forms of the public function.
use Rattle.std.proofs.Common.{sym, refl, ◌∙◌}
use Rattle.laws.proofs.Once.{Settles}
use Rattle.sha512_block.proofs.blocks.hash_blocks.Kinds as hash-blocks-kinds
use Rattle.sha512_block.proofs.blocks.hash_blocks.Reads as hash-blocks-reads
use Rattle.sha512_block.proofs.blocks.hash_open_blocks.Kinds as hash-open-blocks-kinds
use Rattle.sha512_block.proofs.blocks.hash_open_blocks.Reads as hash-open-blocks-reads

pub hash-blocks-once : Settles hash-blocks-kinds.ps hash-blocks-kinds.r hash-blocks-reads.Learnt
hash-blocks-once κs a x u y v p q = (p ∙ sym q, refl)

pub hash-open-blocks-once : Settles hash-open-blocks-kinds.ps hash-open-blocks-kinds.r hash-open-blocks-reads.Learnt
hash-open-blocks-once κs a x u y v p q = (p ∙ sym q, refl)
