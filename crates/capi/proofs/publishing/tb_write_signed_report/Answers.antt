-- `capi::publishing::tb_write_signed_report` meets its contract.
use borrow.Author.Rules.{rules}
use Rattle.capi.proofs.publishing.tb_write_signed_report.Goals as goal

pub returns : goal.returns
returns c =
    let wrote = c.write_signed_report in
    record {
      answer = wrote.result;
      right = wrote.ensures.publishes;
      same = c.into.ensures;
      left = wrote.ensures.out_after;
    }
