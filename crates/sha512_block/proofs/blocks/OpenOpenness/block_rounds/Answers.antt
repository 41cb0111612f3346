-- The rounds on a block of bytes that are open to all: the schedule of a block of zeros is zeros.
use Rattle.std.proofs.Common.{sym, ap, ◌∙◌}
use Rattle.sha512_block.specs.Rounds.{rounds}
use Rattle.sha512_block.proofs.Schedule.{schedule-zero}
use Rattle.sha512_block.proofs.blocks.OpenOpenness.block_rounds.Goals as goal

pub returns-then-all_zero : goal.returns-then-all_zero
returns-then-all_zero c =
    let a = c.args in
    let zero = sym c.all_zero.ensures ∙ c.if-all_zero.true in
    c.quiet_rounds.ensures ∙ ap (λ w. rounds w a.s 80) (sym (schedule-zero a.b.now zero))
