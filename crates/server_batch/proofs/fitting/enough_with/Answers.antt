-- `server_batch::fitting::enough_with` meets its contract: its tests are the definition's.
use mathlib.Core.Path.{◌∙◌}
use native.Mathlib.Omega.{arith}
use borrow.Author.Tests.{eq-eqb}
use Rattle.server_batch.proofs.Fits.{enough-none, enough-some}
use Rattle.server_batch.proofs.Picked.{many-of}
use Rattle.server_batch.proofs.fitting.enough_with.Goals as goal

-- the packets that are counted are at least as long as an answer with d siblings

pub returns-then-k-eq0 : goal.returns-then-k-eq0
returns-then-k-eq0 c =
    let n = c.answer_length.ensures in
    eq-eqb c.count_long-k.result 0 c.if-k-eq0.true ∙ enough-none _ _ _ _ (rw n at c.count_long-k.ensures) c.if-k-eq0.true

pub depth-requires : goal.depth-requires
depth-requires c =
    let few = many-of _ _ c.count_long-k.ensures in
    (omega arith, omega (arith, few, c.requires.0))

pub returns-else-k-eq0 : goal.returns-else-k-eq0
returns-else-k-eq0 c =
    let n = c.answer_length.ensures in
    enough-some _ _ _ _ (rw n at c.count_long-k.ensures) c.depth.ensures.0
