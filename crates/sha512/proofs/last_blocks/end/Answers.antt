-- `sha512::last_blocks::end` meets its contract.
use Rattle.sha512.proofs.LastBlocks.{ended_is}
use Rattle.sha512.proofs.last_blocks.end.Goals as goal

pub returns : goal.returns
returns c =
    ended_is c.args.b.now c.put.new.dst c.put-2.new.dst c.be64_bytes-high.result
    c.be64_bytes-low.result c.args.n c.requires c.be64_bytes-high.ensures
    c.be64_bytes-low.ensures c.put.ensures c.put-2.ensures
