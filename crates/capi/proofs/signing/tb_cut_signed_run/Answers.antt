-- `capi::signing::tb_cut_signed_run` meets its contract.
use borrow.Author.Rules.{rules}
use Rattle.capi.proofs.signing.tb_cut_signed_run.Goals as goal

pub returns : goal.returns
returns c =
    let cut = c.cut_signed_run in
    record { answer = cut.result; right = cut.ensures.takes; same = c.into.ensures; left = cut.ensures.out_after }
