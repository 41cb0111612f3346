use borrow.Author.Rules.{rules}
use Rattle.list_read.proofs.Records.{record-put}
use Rattle.list_read.proofs.reading.put_record.Goals as goal

pub returns : goal.returns
returns c =
    let p = c.requires in record-put _ _ p.0 _ _ c.key_of-key.ensures c.srv_value-srv.ensures c.put.ensures c.put-2.ensures p.1
