-- `capi::publishing::tb_cut_text` meets its contract.
use borrow.Author.Rules.{rules}
use Rattle.capi.proofs.publishing.tb_cut_text.Goals as goal

pub returns : goal.returns
returns c =
    let cut = c.cut_text in
    record {
      answer = cut.result;
      right = cut.ensures.forwards;
      same = c.into.ensures;
      left = cut.ensures.out_after;
    }
