use mathlib.Core.Path.{refl, sym}
use borrow.Author.Tests.{le-leb, lt-leb}
use Rattle.json_strings.specs.Sizes.{is_second}
use Rattle.json_strings.proofs.letters.is_second.Goals as goal

pub returns-then-least_second-b : goal.returns-then-least_second-b
unfolding is_second
returns-then-least_second-b c =
    rw (sym c.least_second.ensures, sym c.most_second.ensures, le-leb _ _ c.if-least_second-b.true) refl

pub returns-else-least_second-b : goal.returns-else-least_second-b
unfolding is_second
returns-else-least_second-b c = rw (sym c.least_second.ensures, lt-leb _ _ c.if-least_second-b.false) refl
