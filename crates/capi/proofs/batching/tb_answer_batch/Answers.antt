-- `capi::batching::tb_answer_batch` meets its contract.
use mathlib.Core.Path.{ap, ◌∙◌}
use Rattle.c_packets.specs.Batching.{tb_batch}
use Rattle.capi.proofs.Numbers.{batch-code}
use borrow.Author.Rules.{rules}
use Rattle.capi.proofs.batching.tb_answer_batch.Goals as goal

pub returns : goal.returns
returns c =
    let called = c.answer_batch in
    let is = c.into.ensures in record { value = is ∙ ap tb_batch called.ensures.value; left_by = rw (is, batch-code called.result) called.ensures.left_by }
