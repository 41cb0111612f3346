-- `report_read::records::put_sizes` meets its contract.
use borrow.Author.Rules.{rules}
use Rattle.report_read.proofs.Areas.{two-lengths}
use Rattle.report_read.proofs.records.put_sizes.Goals as goal

pub returns : goal.returns
returns c =
    let a =
    c.args in
    two-lengths a.out.now a.at a.request a.response
    c.le32_bytes-first.ensures
    c.le32_bytes-second.ensures
    c.put.ensures c.put-2.ensures
    c.requires
