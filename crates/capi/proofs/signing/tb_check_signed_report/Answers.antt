-- `capi::signing::tb_check_signed_report` meets its contract.
use borrow.Author.Rules.{rules}
use Rattle.capi.proofs.signing.tb_check_signed_report.Goals as goal

pub returns : goal.returns
returns c =
    let checked = c.check_signed_report in
    record { answer = checked.result; right = checked.ensures; same = c.into.ensures }
