-- `capi::piling::tb_check_report` meets its contract.
use borrow.Author.Rules.{rules}
use Rattle.capi.proofs.piling.tb_check_report.Goals as goal

pub returns : goal.returns
returns c =
    let checked = c.check_report in
    record { answer = checked.result; right = checked.ensures; same = c.into.ensures }
