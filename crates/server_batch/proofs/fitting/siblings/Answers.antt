-- `server_batch::fitting::siblings` meets its contract: `find` answers the first number that is enough.
use mathlib.Core.Bool.{true, false}
use mathlib.Core.Path.{◌≡◌, ap, ◌∙◌}
use Rattle.std.proofs.lemmas.Iterator.{first_from_Range}
use Rattle.laws.specs.Least.{least}
use Rattle.server_batch.specs.Steps.{enough_in}
use Rattle.server_batch.proofs.Fits.{found-first}
use borrow.Author.Rules.{rules}
use Rattle.server_batch.proofs.fitting.siblings.Goals as goal

pub returns : goal.returns
returns c =
    let a = c.args in
    let p = enough_in a.marks.now a.lengths.now a.c in
    let m = first_from_Range _ _ _ c.find.result (λ d. p d ≡ true) (λ d. p d ≡ false) c.find.ensures.ran
    (λ x q k. search rules) (λ x q k. search rules) in
    c.unwrap_or.ensures
    ∙ found-first p c.depth-last.result c.find.result m
    ∙ ap (least p) c.depth-last.ensures.0
