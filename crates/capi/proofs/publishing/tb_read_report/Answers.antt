-- `capi::publishing::tb_read_report` meets its contract.
use mathlib.Core.Path.{ap, ◌∙◌}
use Rattle.c_evidence.specs.Publishing.{tb_records}
use Rattle.capi.proofs.Numbers.{read-code}
use borrow.Author.Rules.{rules}
use Rattle.capi.proofs.publishing.tb_read_report.Goals as goal

pub returns : goal.returns
returns c =
    let read = c.read_report in
    let is = c.into.ensures in record { value = is ∙ ap tb_records read.ensures.value; out_after = rw (is, read-code read.result) read.ensures.out_after }
