-- `sha512::last_blocks::last` meets its contract.
use Rattle.std.proofs.Common.{ℕ, List, ap, ◌∙◌, ap₂}
use Rattle.sha512_block.specs.HashValue.{hashed}
use Rattle.sha512.specs.LastBlocks.{ended_with}
use Rattle.sha512.proofs.LastBlocks.{last_one, last-two}
use Rattle.sha512.proofs.last_blocks.last.Goals as goal

pub returns-then-t-lt112 : goal.returns-then-t-lt112
returns-then-t-lt112 c =
    let a = c.args in
    c.hash_blocks.ensures
    ∙ ap (hashed a.h) (c.end.ensures ∙ ap (λ (b : List ℕ). ended_with b a.n) c.begin.ensures)
    ∙ last_one a.t.now a.n c.requires a.h c.if-t-lt112.true

pub returns-else-t-lt112 : goal.returns-else-t-lt112
returns-else-t-lt112 c =
    let a = c.args in
    let first = c.hash_blocks-x.ensures ∙ ap (hashed a.h) c.begin.ensures in
    c.hash_blocks-else-t-lt112.ensures
    ∙ ap₂ hashed first c.end-else-t-lt112.ensures
    ∙ last-two a.t.now a.n c.requires a.h c.if-t-lt112.false
