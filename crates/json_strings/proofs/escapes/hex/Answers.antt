use borrow.Author.Rules.{rules}
use mathlib.Core.Path.{sym}
use Rattle.json_strings.specs.Text.{hex_at}
use Rattle.json_strings.proofs.Units.{units}
use Rattle.json_strings.proofs.escapes.hex.Goals as goal

pub returns-then-a-eq16 : goal.returns-then-a-eq16
unfolding hex_at
returns-then-a-eq16 c = search (units, rules) depth 9

pub returns-then-b-eq16 : goal.returns-then-b-eq16
unfolding hex_at
returns-then-b-eq16 c = search (units, rules) depth 9

pub returns-then-c-eq16 : goal.returns-then-c-eq16
unfolding hex_at
returns-then-c-eq16 c = search (units, rules) depth 9

pub returns-then-d-eq16 : goal.returns-then-d-eq16
unfolding hex_at
returns-then-d-eq16 c = search (units, rules) depth 9

pub returns : goal.returns
unfolding hex_at
returns c =
    rw (
      sym c.nibble_at-d.ensures.0,
      sym c.nibble_at-c.ensures.0,
      sym c.nibble_at-b.ensures.0,
      sym c.nibble_at-a.ensures.0,
    ) (search (
      units,
      rules,
    ) depth 9)
