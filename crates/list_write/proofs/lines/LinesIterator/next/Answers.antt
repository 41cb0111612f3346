use Prim.Native.Nat.{◌<◌}
use mathlib.Core.Path.{◌≡◌, ap}
use mathlib.Core.List.{◌∷◌}
use borrow.Author.Rules.{rules}
use lib.ListN.{length}
use Rattle.list_write.specs.Lines.{lines_of}
use Rattle.list_write.proofs.Feeds.{lines-some, no-lines, size-most}
use Rattle.list_write.proofs.lines.LinesIterator.next.Goals as goal

pub returns-then-is_empty-clause-steps : goal.returns-then-is_empty-clause-steps
returns-then-is_empty-clause-steps c =
    let empty : length c.args.self.now.0.now ≡ 0 = search rules in
    let none = no-lines c.args.self.now.0.now empty in
    (none, none)

pub split_at-requires : goal.split_at-requires
split_at-requires c = rw c.line_size.ensures (size-most _)

pub returns-clause-steps : goal.returns-clause-steps
returns-clause-steps c =
    let some : 0 < length c.args.self.now.0.now = search rules in
    rw (c.split_at.ensures.front, c.split_at.ensures.back, c.line_size.ensures) (lines-some c.args.self.now.0.now some)

pub returns-clause-goes : goal.returns-clause-goes
returns-clause-goes c =
    let some : 0 < length c.args.self.now.0.now = search rules in
    let first : lines_of c.args.self.now.0.now ≡ c.split_at.result.0.now ∷ lines_of c.split_at.result.1.now =
    rw (c.split_at.ensures.front, c.split_at.ensures.back, c.line_size.ensures) (lines-some c.args.self.now.0.now some) in
    let shorter = ap length first in
    search rules
