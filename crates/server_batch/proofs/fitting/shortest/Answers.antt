-- `server_batch::fitting::shortest` meets its contract.
use mathlib.Core.Path.{ap, ◌∙◌}
use Prim.Native.Nat.{ℕ, ◌+◌, ◌*◌}
use native.Mathlib.Omega.{arith}
use lib.ListN.{length}
use Rattle.laws.proofs.Least.{least-le}
use Rattle.tree.specs.Tree.{depth_of}
use Rattle.server_batch.specs.Steps.{enough_in}
use Rattle.server_batch.proofs.fitting.shortest.Goals as goal

pub answer_length-requires : goal.answer_length-requires
answer_length-requires c =
    let a = c.args in
    let few = least-le (enough_in a.marks.now a.lengths.now a.c) (depth_of (length a.lengths.now)) in
    omega (arith, c.requires.3, c.siblings.ensures, few)

pub returns : goal.returns
returns c =
    c.answer_length.ensures
    ∙ ap (λ (d : ℕ). 264 + 32 * d + c.args.c) c.siblings.ensures
